-- Calls: what is put for one by what its name means, and the error where it means nothing. Assumes nothing.
use Rattle.std.specs.Prelude.{ℕ, ◌+◌, ◌*◌, ◌^◌, ◌≤◌, ◌<◌, ◌≡◌, ◌⊎◌, true, cond, List, [], ◌∷◌, ◌++◌, eqb, length, get_or}
use Rattle.std.proofs.Common.{arith, sym, ap, ◌∙◌, inl, inr, append-nil}
use Rattle.fields.specs.Number.{number}
use Rattle.fields.specs.Field.{field}
use Rattle.fields.specs.Room.{overlay}
use Rattle.tree.specs.Rose.{end_of}
use Rattle.rules.specs.Table.{Arg, u_mod, u_filter, Err}
use Rattle.rules.specs.Listing.{arg_list, rec_bytes, errs_bytes}
use Rattle.rules.specs.Tails.{Tail, empty, bit, subset, parent, sibling, Call, local_call, module_kind}
use Rattle.rules.specs.Returns.{Lone}
use Rattle.rules.specs.Filters.{Found, nothing, argument, local, of_module, of_native}
use Rattle.rules.specs.Outs.{Made, binds, call_out}
use Rattle.puts.specs.declared.state.State.{State}
use Rattle.puts.specs.State.{ers, with_ers}
use Rattle.reads.specs.Bytes.{names_of, Fields}
use Rattle.cells.specs.Cells.{kind_at, place_at, before_at, level_at, last_at}
use Rattle.cells.specs.Notes.{numbers_of}
use Rattle.finds.specs.Hits as Hit
use Rattle.finds.specs.Means.{FoundIs, undefined_kind}

-- the arguments whose notes are the a rows from k on, as the parameters behind the name of row j take them
abbrev pub args_at : List ℕ → List ℕ → ℕ → ℕ → ℕ → List Arg
args_at b s j k a = binds (names_of b a (end_of b (place_at s j))) (numbers_of s k a)

-- a CallDef: its definition's number, arguments, skip, and the kind by its number
abbrev pub def_bytes : ℕ → List Arg → ℕ → ℕ → List ℕ
def_bytes n as' skip kind = field 0x5A (number 2 n ++ (number 2 (length as') ++ (arg_list 2 as' ++ (number 2 skip ++ (kind ∷ [])))))

-- the a parameters behind the name of row j can be read, and the a notes from row k on; the record of w bytes more than 3 for each wraps no offset
pub record ArgsReady (b s : List ℕ) (j k a o w : ℕ) : Type 0 where
  pub within : 4 * j + 4 ≤ length s
  pub name : end_of b (place_at s j) ≤ length b
  pub params : Fields b a (end_of b (place_at s j))
  pub rows : 4 * (k + a) ≤ length s
  pub room : o + w + 3 * a < 2 ^ 64

-- how the definition of row j is called where `al` may be returned: as a parent (3), a sibling (4), or one of a module
unfoldable pub jump_of : ℕ → ℕ → ℕ → Tail → Call
jump_of kind l set al =
    cond (eqb kind 3) (local_call l parent al)
    (cond (eqb kind 4) (local_call l (sibling set) al) (record { kind = module_kind l (sibling set); tail = empty }))

-- row j can be read; what is neither parent nor sibling returns at most itself
pub record JumpReady (s : List ℕ) (kind j : ℕ) : Type 0 where
  pub within : 4 * j + 4 ≤ length s
  pub lone : (kind ≡ 3 → ⊥) → (kind ≡ 4 → ⊥) → subset (last_at s j) (bit (level_at s j)) ≡ true

-- What a call's record rests on besides: what means nothing is a filter or a module; m bindings are no locals, and a local definition has them all before it,
-- a module's just these; that returns at most itself
unfoldable pub Callable : Found → List ℕ → ℕ → Hit.Found → Type 0
Callable nothing s m f = f.kind < 2
Callable (argument i) s m f = Unit {0}
Callable (local d) s m f = m ≤ before_at s f.j
Callable (of_module d) s m f = (before_at s f.j ≡ m) × Lone d
Callable (of_native i ps) s m f = Unit {0}

-- the name means something, or nothing, with a arguments, whose notes lie within the rows from k on
pub record CallReady (b s : List ℕ) (f : Hit.Found) (k a o : ℕ) : Type 0 where
  pub found : Found
  pub err : Err
  pub outer : ℕ
  pub is : FoundIs found err b s outer a f
  pub can : Callable found s outer f
  pub rows : 4 * (k + a) ≤ length s
  pub room : o + 10 + 3 * a < 2 ^ 64

-- Whatever it means: the rule's own record at o, and what the rule returns. m bindings are no locals, c are; p is any place, al may be returned, and the
-- arguments' numbers are in the notes
pub record CallPut (b s : List ℕ) (f : Hit.Found) (k a o : ℕ) (d d' : List ℕ) (al r : ℕ) : Type 0 where
  pub is : (u : Found) (x : Err) (m c p : ℕ) (g : Made (List ℕ)) → FoundIs u x b s m a f → Callable u s m f → get_or s 1 0 ≡ m + c → g.made ≡ numbers_of s k a
      → (d' ≡ overlay d o (rec_bytes 2 (call_out p c al g x u).self)) × (r ≡ (call_out p c al g x u).tail)

-- ---- errors

-- the error that is put: of a call that means nothing in the module h
unfoldable pub lost_errs : ℕ → ℕ → Hit.Found → List Err
lost_errs h a f =
    cond (eqb f.kind 0) (record { what = u_filter a; home = h; place = f.at; length = f.len } ∷ [])
    (cond (eqb f.kind 1) (record { what = u_mod; home = h; place = f.at; length = f.len } ∷ []) [])

pub record Failed (s : List ℕ) (f : Hit.Found) (a : ℕ) (st st' : State) (d d' : List ℕ) : Type 0 where
  pub state : st' ≡ with_ers st (ers st + length (errs_bytes 2 (lost_errs (get_or s 3 0) a f)))
  pub room : d' ≡ overlay d (ers st) (errs_bytes 2 (lost_errs (get_or s 3 0) a f))

-- an error of a call names a module, or a filter of a arguments
unfoldable pub OfCall : ℕ → ℕ → Err → Type 0
OfCall h a x = ((x.what ≡ u_filter a) ⊎ (x.what ≡ u_mod)) × (x.home ≡ h)

-- so what means nothing is a filter or a module
pub lost-kind : (x : Err) (b s : List ℕ) (m a h : ℕ) (f : Hit.Found) → FoundIs nothing x b s m a f → OfCall h a x → f.kind < 2
unfolding FoundIs OfCall
lost-kind x b s m a h f i o = go o.0
  where
    go : (x.what ≡ u_filter a) ⊎ (x.what ≡ u_mod) → f.kind < 2
    go (inl e) = omega (arith, i.0 ∙ ap undefined_kind e)
    go (inr e) = omega (arith, i.0 ∙ ap undefined_kind e)

-- these are the rule's
pub call-errs : (u : Found) (x : Err) (b s : List ℕ) (m a : ℕ) (f : Hit.Found) (h p c al : ℕ) (g : Made (List ℕ))
    → FoundIs u x b s m a f → OfCall h a x → (call_out p c al g x u).errs ≡ g.errs ++ lost_errs h a f
unfolding FoundIs OfCall call_out lost_errs
call-errs nothing x b s m a f h p c al g i o = ap (λ (l : List Err). g.errs ++ l) (go o.0)
  where
    go : (x.what ≡ u_filter a) ⊎ (x.what ≡ u_mod) → x ∷ [] ≡ lost_errs h a f
    go (inl e) = let k : f.kind ≡ 0 = i.0 ∙ ap undefined_kind e in simp (k, i.1, i.2, ← o.1, ← e)
    go (inr e) = let k : f.kind ≡ 1 = i.0 ∙ ap undefined_kind e in simp (k, i.1, i.2, ← o.1, ← e)
call-errs (argument n) x b s m a f h p c al g i o = simp i.0 (sym (append-nil g.errs))
call-errs (local d) x b s m a f h p c al g i o = go i.0
  where
    go : ((f.kind ≡ 3) × (kind_at s f.j ≡ 3)) ⊎ ((f.kind ≡ 4) × (kind_at s f.j ≡ 4)) → g.errs ≡ g.errs ++ lost_errs h a f
    go (inl e) = simp e.0 (sym (append-nil g.errs))
    go (inr e) = simp e.0 (sym (append-nil g.errs))
call-errs (of_module d) x b s m a f h p c al g i o = simp i.0 (sym (append-nil g.errs))
call-errs (of_native n ps) x b s m a f h p c al g i o = simp i.0 (sym (append-nil g.errs))
