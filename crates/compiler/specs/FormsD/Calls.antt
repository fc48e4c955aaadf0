-- Calls: what is known of the one at p before its arguments are compiled, what each step is ready for, and the rule's record from what was put. A call that the
-- rules supply. Assumes nothing.
use Rattle.std.specs.Prelude.{ℕ, ◌+◌, ◌-◌, ◌*◌, ◌^◌, ◌≤◌, ◌<◌, ◌≡◌, refl, Bool, true, false, cond, List, [], ◌∷◌, ◌++◌, eqb, ltb, length, get_or, take, drop}
use Rattle.std.proofs.Common.{arith, ap₂, subst, ◌∙◌, length-take, length-drop}
use Rattle.std.proofs.Math.Path.{sym, ap}
use Rattle.fields.specs.Number.{number}
use Rattle.fields.specs.Field.{field}
use Rattle.fields.specs.Room.{overlay, overlay-none, overlay-out, length-overlay}
use Rattle.tree.specs.Rose.{Roses, rnil, end_of, text_of, Row}
use Rattle.tree.specs.Tree.{Term, Terms, t_call}
use Rattle.tree.specs.Form.{f_terms}
use Rattle.rules.specs.Names.{Text}
use Rattle.rules.specs.Table.{Rec, Err, u_mod, u_filter}
use Rattle.rules.specs.Tails.{empty}
use Rattle.rules.specs.Rows.{Env, count}
use Rattle.rules.specs.Filters.{home_of, Found, nothing, argument, local, of_module, of_native, meant}
use Rattle.rules.specs.Outs.{Out, Made, bare, slot, arity, call_out}
use Rattle.rules.specs.Listing.{rec_bytes, table_bytes, errs_bytes}
use Rattle.rules.specs.Rules.{term, args, called}
use Rattle.puts.specs.declared.state.State.{State}
use Rattle.puts.specs.State.{num, off, ers, late, start_of, spot_of, next_of, Put, with_num, with_off, with_ers}
use Rattle.puts.specs.Rooms.{put_one, put_then, put-errs, own-node, start-high, spot-within, placed-within}
use Rattle.reads.specs.Bytes.{many, TermAt, name_at}
use Rattle.reads.specs.Widths.{call_width}
use Rattle.reads.specs.Shapes.{CallAt, on_call, terms-many}
use Rattle.cells.specs.Cells.{View, Seen, env_of, outer}
use Rattle.cells.specs.Notes.{numbers_of}
use Rattle.rows.specs.Kept.{seen-kept, heads-below}
use Rattle.finds.specs.Hits as Hit
use Rattle.finds.specs.Means.{FoundIs, Means}
use Rattle.finds.specs.Under.{call_length, args-made, found-arity, found-width, missing-kind}
use Rattle.records.specs.Calls.{CallReady, CallPut, lost_errs, Failed, call-errs}
use Rattle.compiler.specs.Post.{Ready, Stands, Placed, Paid, Passed, Did}
use Rattle.compiler.specs.Calling.{Meaning}
use Rattle.compiler.specs.Moves.{Stored, set-off, set-ers, set_both, ready-start}
use Rattle.compiler.specs.Common as common
use Rattle.compiler.specs.Common.{did_of}
use Rattle.compiler.specs.FormsD.Meanings.{callable, of-call}

-- ---- errors alone

pub put-fails : (es : List Err) (st st₁ : State) (d d₁ : List ℕ) → st₁ ≡ with_ers st (ers st + length (errs_bytes 2 es)) → d₁ ≡ overlay d (ers st) (errs_bytes 2 es) → Put [] es st st₁ d d₁
put-fails es st st₁ d d₁ e j =
    record {
      nums = ap num e ∙ omega arith;
      offs = ap off e ∙ omega arith;
      errs = ap ers e;
      size = ap length j ∙ length-overlay d (ers st) (errs_bytes 2 es);
      table = λ h. j ∙ overlay-out d (ers st) (errs_bytes 2 es) h ∙ sym (overlay-none d (off st));
      errors = λ h. j;
    }

-- an error of a call is at most 11 bytes long
pub lost-few : (h a : ℕ) (f : Hit.Found) → length (errs_bytes 2 (lost_errs h a f)) ≤ 11
unfolding lost_errs field number
lost-few h a f = go (eqb f.kind 0) (eqb f.kind 1)
  where
    go : (t u : Bool)
        → length (errs_bytes 2 (cond t (record { what = u_filter a; home = h; place = f.at; length = f.len } ∷ []) (cond u (record { what = u_mod; home = h; place = f.at; length = f.len } ∷ []) []))) ≤ 11
    go true u = omega arith
    go false true = omega arith
    go false false = omega arith

-- ---- the rule's own words for a call

pub call-more : (p k r : ℕ) (o : Made (List ℕ)) (x : Err) (f : Found) → (call_out p k r o x f).more ≡ o.more
unfolding call_out
call-more p k r o x nothing = refl
call-more p k r o x (argument i) = refl
call-more p k r o x (local d) = refl
call-more p k r o x (of_module d) = refl
call-more p k r o x (of_native i ps) = refl

pub width_few : (kind a : ℕ) → call_width kind a ≤ 10 + 3 * a
unfolding call_width
width_few kind a = go (ltb kind 2) (eqb kind 2) (eqb kind 6)
  where
    go : (t u v : Bool) → cond t 3 (cond u 5 (cond v (7 + 3 * a) (10 + 3 * a))) ≤ 10 + 3 * a
    go true u v = omega arith
    go false true v = omega arith
    go false false true = omega arith
    go false false false = omega arith

-- of the name x at `at`, in view of vw, what was found in the rows s being f
module _ (vw : View) (b s s₀ : List ℕ) (k₀ : ℕ) (g : Seen vw b s₀ k₀) (e : Env) (x : Text) (at a p al : ℕ) (o : Made (List ℕ)) (f : Hit.Found)
    (i : FoundIs (meant vw.top x at a e).found (meant vw.top x at a e).missing b s (outer vw) a f) where
  abbrev whole : Out
  whole = called vw.top p x at a o e al

  pub called_more : (called vw.top p x at a o e al).more ≡ o.more
  unfolding called
  called_more = call-more p (count e) al o (meant vw.top x at a e).missing (meant vw.top x at a e).found

  pub called-errs : get_or s 3 0 ≡ home_of vw.top → (called vw.top p x at a o e al).errs ≡ o.errs ++ lost_errs (get_or s 3 0) a f
  unfolding called
  called-errs h =
      call-errs (meant vw.top x at a e).found (meant vw.top x at a e).missing b s (outer vw) a f (home_of vw.top) p (count e) al o i (of-call vw.top x at a e)
      ∙ ap (λ (n : ℕ). o.errs ++ lost_errs n a f) (sym h)

  pub called-wide : length o.made ≡ a → call_width f.kind a ≡ length (rec_bytes 2 (called vw.top p x at a o e al).self)
  unfolding called
  called-wide l =
      found-width (meant vw.top x at a e).found (meant vw.top x at a e).missing b s (outer vw) a f (missing-kind vw.top x at a e) i
      ∙ sym (call_length p (count e) al o (meant vw.top x at a e).missing (meant vw.top x at a e).found a l (found-arity (meant vw.top x at a e).found (meant vw.top x at a e).missing b s (outer vw) a f i))

  pub called-put : (k y r : ℕ) (d d' : List ℕ) → get_or s 1 0 ≡ outer vw + count e → o.made ≡ numbers_of s k a → CallPut b s f k a y d d' al r
      → (d' ≡ overlay d y (rec_bytes 2 (called vw.top p x at a o e al).self)) × (r ≡ (called vw.top p x at a o e al).tail)
  unfolding called
  called-put k y r d d' c n u =
      u.is (meant vw.top x at a e).found (meant vw.top x at a e).missing (outer vw) (count e) p o i (callable vw b s₀ s k₀ g x at a e f i) c n

  pub called-ready : (k y : ℕ) → 4 * (k + a) ≤ length s → y + 10 + 3 * a < 2 ^ 64 → CallReady b s f k a y
  called-ready k y h l =
      record { found = (meant vw.top x at a e).found; err = (meant vw.top x at a e).missing; outer = outer vw; is = i; can = callable vw b s₀ s k₀ g x at a e f i; rows = h; room = l }

-- ---- a call that the rules supply

pub supplied-ready : (b s : List ℕ) (x : Text) (at y : ℕ) (f : Hit.Found) → ((vw : View) × (k : ℕ) × Seen vw b s k) → Means b s x at 0 f → y + 10 < 2 ^ 64 → CallReady b s f 0 0 y
supplied-ready b s x at y f v i l =
    called-ready v.0 b s s v.1 v.2 (env_of v.0 b s v.1) x at 0 0 0 (bare []) f (i v.0 v.1 v.2) 0 y (omega arith) (omega arith)

pub supplied-fail : (b s : List ℕ) → ((vw : View) × (k : ℕ) × Seen vw b s k) → 4 ≤ length s
supplied-fail b s v = omega (arith, heads-below v.0 b s v.1 v.2, v.2.within)

pub supplied-put : (b s : List ℕ) (x : Text) (at w y r : ℕ) (f : Hit.Found) (st st₁ st₂ : State) (d d₁ d₂ : List ℕ) → Means b s x at 0 f → w ≡ call_width f.kind 0
    → y ≡ off st → st₁ ≡ with_off (with_num st (num st + 1)) (off st + w) → CallPut b s f 0 0 y d d₁ 0 r → Failed s f 0 st₁ st₂ d₁ d₂
    → (vw : View) (k p : ℕ) → Seen vw b s k → let q = called vw.top p x at 0 (bare []) (env_of vw b s k) empty in Put (slot q) q.errs st st₂ d d₂
unfolding numbers_of
supplied-put b s x at w y r f st st₁ st₂ d d₁ d₂ i ew ey es u l vw k p g =
    let e = env_of vw b s k in
    let o : Made (List ℕ) = bare [] in
    let j = i vw k g in
    let q : Out = called vw.top p x at 0 o e empty in
    let c = called-put vw b s s k g e x at 0 p 0 o f j 0 y r d d₁ g.view refl u in
    let P : Put (q.self ∷ []) [] st st₁ d d₁ = put_one q.self w y st st₁ d d₁ (ew ∙ called-wide vw b s s k g e x at 0 p 0 o f j refl) ey es c.0 in
    let Q : Put [] (lost_errs (get_or s 3 0) 0 f) st₁ st₂ d₁ d₂ = put-fails (lost_errs (get_or s 3 0) 0 f) st₁ st₂ d₁ d₂ l.state l.room in
    let R : Put (q.self ∷ []) (lost_errs (get_or s 3 0) 0 f) st st₂ d d₂ = put_then (q.self ∷ []) [] [] (lost_errs (get_or s 3 0) 0 f) st st₁ st₂ d d₁ d₂ P Q in
    subst (λ (ms : List Rec). Put (q.self ∷ ms) q.errs st st₂ d d₂) (sym (called_more vw b s s k g e x at 0 p 0 o f j))
    (subst (λ (xs : List Err). Put (q.self ∷ []) xs st st₂ d d₂) (sym (called-errs vw b s s k g e x at 0 p 0 o f j g.base.home)) R)

pub supplied-ers : (w : ℕ) (st st₁ : State) → st₁ ≡ with_off (with_num st (num st + 1)) (off st + w) → ers st₁ ≡ ers st
supplied-ers w st st₁ e = (set_both st st₁ (num st + 1) (off st + w) e).ers

-- what it took
pub supplied-few : (s : List ℕ) (w : ℕ) (f : Hit.Found) (st st₁ st₂ : State) (d₁ d₂ : List ℕ) → w ≡ call_width f.kind 0 → st₁ ≡ with_off (with_num st (num st + 1)) (off st + w) → Failed s f 0 st₁ st₂ d₁ d₂
    → (num st₂ ≡ num st + 1) × (off st₂ ≤ off st + 10) × (ers st₂ ≤ ers st + 11)
supplied-few s w f st st₁ st₂ d₁ d₂ ew es l =
    let a = common-both in
    let c = set-ers st₁ st₂ (ers st₁ + length (errs_bytes 2 (lost_errs (get_or s 3 0) 0 f))) l.state in
    (c.num ∙ a.num, omega (arith, c.off, a.off, ew, width_few f.kind 0), omega (arith, c.ers, a.ers, lost-few (get_or s 3 0) 0 f))
  where
    common-both : Stored st₁ (num st + 1) (off st + w) (ers st)
    common-both = set_both st st₁ (num st + 1) (off st + w) es

-- ---- a call

-- what is known of it before anything is compiled
pub record Called (b : List ℕ) (p q a : ℕ) : Type 0 where
  pub fits : end_of b p ≤ length b
  pub low : p + 6 ≤ q
  pub high : q + 3 * a ≤ end_of b p
  pub args : (ts : Terms) × Row b (f_terms ts rnil) q (end_of b p) × (arity ts ≡ a)

pub call-here : (b : List ℕ) (p : ℕ) → get_or b p 0 ≡ 0xA8 → Stands b p → (end_of b p ≤ length b) × (end_of b (p + 3) ≤ length b) × ((rs : Roses) × Row b rs (end_of b (p + 3)) (end_of b p))
call-here b p e g = on_call b p (λ _. (end_of b p ≤ length b) × (end_of b (p + 3) ≤ length b) × ((rs : Roses) × Row b rs (end_of b (p + 3)) (end_of b p))) e (λ ts n. (n.fits, n.name, (f_terms ts rnil, n.args))) g.0 g.1

-- the members are counted up to z
abbrev pub Membered : List ℕ → ℕ → ℕ → ℕ → Type 0
Membered b q z a = (rs : Roses) → Row b rs q z → (a ≡ many rs) × (q + 3 * a ≤ z)

pub membered : (b : List ℕ) (q z z' a : ℕ) → z ≡ z' → Membered b q z a → Membered b q z' a
membered b q z z' a e f = subst (λ (i : ℕ). Membered b q i a) e f

pub call-members : (b : List ℕ) (p q z : ℕ) → get_or b p 0 ≡ 0xA8 → Stands b p → q ≡ end_of b (p + 3) → z ≡ end_of b p → (z ≤ length b) × ((rs : Roses) × Row b rs q z)
call-members b p q z e g eq ez =
    let w = call-here b p e g in
    subst (λ (i : ℕ). (i ≤ length b) × ((rs : Roses) × Row b rs q i)) (sym ez) (subst (λ (i : ℕ). (end_of b p ≤ length b) × ((rs : Roses) × Row b rs i (end_of b p))) (sym eq) (w.0, w.2))

-- its name, between two places
pub call-name : (b : List ℕ) (p q : ℕ) → q ≡ end_of b (p + 3) → take (q - (p + 6)) (drop (p + 6) b) ≡ text_of b (p + 3)
call-name b p q f =
    let e : q - (p + 6) ≡ get_or b (p + 3 + 1) 0 + get_or b (p + 3 + 2) 0 * 256 = omega (arith, f) in
    let g : p + 6 ≡ p + 3 + 3 = omega arith in
    ap₂ (λ (n i : ℕ). take n (drop i b)) e g

pub call-short : (b : List ℕ) (n i : ℕ) → length b ≤ 32768 → length (take n (drop i b)) < 65536
call-short b n i h = omega (arith, length-take n (drop i b), length-drop i b)

pub call_known : (b : List ℕ) (p q a : ℕ) → get_or b p 0 ≡ 0xA8 → Stands b p → q ≡ end_of b (p + 3) → ((rs : Roses) → Row b rs q (end_of b p) → (a ≡ many rs) × (q + 3 * a ≤ end_of b p)) → Called b p q a
call_known b p q a e g f h = on_call b p (λ _. Called b p q a) e go g.0 g.1
  where
    go : (ts : Terms) → CallAt b p ts → Called b p q a
    go ts n =
        let r : Row b (f_terms ts rnil) q (end_of b p) = subst (λ (i : ℕ). Row b (f_terms ts rnil) i (end_of b p)) (sym f) n.args in
        let c = h (f_terms ts rnil) r in
        record { fits = n.fits; low = omega (arith, f); high = c.1; args = (ts, r, sym (terms-many ts) ∙ sym c.0) }

-- every call that stands there
args-all : (b : List ℕ) (p q a : ℕ) → q ≡ end_of b (p + 3) → ((rs : Roses) → Row b rs q (end_of b p) → (a ≡ many rs) × (q + 3 * a ≤ end_of b p))
    → (ts : Terms) → CallAt b p ts → Row b (f_terms ts rnil) q (end_of b p) × (arity ts ≡ a)
args-all b p q a f h ts n =
    let r : Row b (f_terms ts rnil) q (end_of b p) = subst (λ (i : ℕ). Row b (f_terms ts rnil) i (end_of b p)) (sym f) n.args in
    (r, sym (terms-many ts) ∙ sym (h (f_terms ts rnil) r).0)

pub call-reserve : (b s : List ℕ) (k p q a o w : ℕ) (f : Hit.Found) (st : State) → Called b p q a → Ready b s k (p + 1) (end_of b p) st → Placed o st → w ≡ call_width f.kind a → o + w < 2 ^ 64
call-reserve b s k p q a o w f st c y h ew =
    let n : o ≤ late = placed-within o (off st) h (omega (arith, y.offs)) in omega (arith, n, ew, width_few f.kind a, c.high, c.fits, y.small)

-- the arguments
pub call-args : (b : List ℕ) (p q z a : ℕ) → z ≡ end_of b p → Called b p q a → (ts : Terms) × Row b (f_terms ts rnil) q z × (arity ts ≡ a)
call-args b p q z a e c = (c.args.0, subst (λ (i : ℕ). Row b (f_terms c.args.0 rnil) q i) (sym e) c.args.1, c.args.2)

pub call-ready : (b s : List ℕ) (k p q z a o w : ℕ) (f : Hit.Found) (st st₁ : State) → z ≡ end_of b p → Called b p q a → Ready b s k (p + 1) (end_of b p) st → w ≡ call_width f.kind a → st₁ ≡ with_off st (start_of o (off st) w)
    → Ready b s k q z st₁ × ((ts : Terms) × Row b (f_terms ts rnil) q z × (arity ts ≡ a))
call-ready b s k p q z a o w f st st₁ ez c y ew e = (
  subst (λ (i : ℕ). Ready b s k q i st₁) (sym ez) (ready-start b s k (p + 1) q (end_of b p) (end_of b p) o w st st₁ y (omega (arith, c.low)) (omega (arith, c.high)) (omega arith) (omega (arith, ew, width_few f.kind a, c.high, c.fits, y.small)) e),
  call-args b p q z a ez c,
)

-- behind them
module _ (b s s' : List ℕ) (k p q a o w : ℕ) (f : Hit.Found) (st st₁ st₂ : State) (d d₁ : List ℕ) (c : Called b p q a) (y : Ready b s k (p + 1) (end_of b p) st) (ew : w ≡ call_width f.kind a)
    (e₁ : st₁ ≡ with_off st (start_of o (off st) w)) (m : Passed b q a s s' k st₁ st₂ d d₁) where
  passed-paid : Paid (q + a) (end_of b p) k s s' st₁ st₂
  passed-paid = m.paid c.args.0 (end_of b p) c.args.1 c.args.2

  wide : w ≤ 10 + 3 * a
  wide = omega (arith, ew, width_few f.kind a)

  first : Stored st₁ (num st) (start_of o (off st) w) (ers st)
  first = set-off st st₁ (start_of o (off st) w) e₁

  pub call-fail : (4 ≤ length s') × (ers st₂ + 11 < 2 ^ 64)
  call-fail = let u = passed-paid in
      (omega (arith, heads-below y.view b s k y.seen, y.seen.within, u.same), omega (arith, u.errs, first.ers, y.errs, c.fits, y.small, c.low, c.high))

  module _ (st₃ : State) (d₂ : List ℕ) (l : Failed s' f a st₂ st₃ d₁ d₂) where
    second : Stored st₃ (num st₂) (off st₂) (ers st₂ + length (errs_bytes 2 (lost_errs (get_or s' 3 0) a f)))
    second = set-ers st₂ st₃ (ers st₂ + length (errs_bytes 2 (lost_errs (get_or s' 3 0) a f))) l.state

    off_small : off st₃ + w < 2 ^ 40
    off_small = let u = passed-paid in omega (arith, second.off, u.offs, first.off, start-high o (off st) w, y.offs, wide, c.low, c.high, c.fits, y.small)

    pub call-place : off st₃ + w < 2 ^ 64
    call-place = omega (arith, off_small)

    module _ (x : Text) (at : ℕ) (i : Meaning b s k x at a f) where
      -- the call's own record
      pub call-put : Placed o st → (v : ℕ) → v ≡ spot_of o (off st₃) → CallReady b s' f k a v
      call-put h v ev =
          let u = passed-paid in
          let n : o ≤ late = placed-within o (off st) h (omega (arith, y.offs)) in
          let r : v ≤ late = omega (arith, ev, spot-within o (off st₃) late n (omega (arith, off_small))) in
          called-ready y.view b s' s k y.seen (env_of y.view b s k) x at a 0 0 (bare []) f (i y.view y.seen s' u.kept u.same) k v
          (omega (arith, y.spare, u.same, c.low, c.high, c.fits)) (omega (arith, r, c.high, c.fits, y.small))

pub call-did : (b : List ℕ) (p : ℕ) (s s' : List ℕ) (k o q a w v r : ℕ) (x : Text) (f : Hit.Found) (st st₁ st₂ st₃ st₄ : State) (d d₁ d₂ d₃ : List ℕ) (al : ℕ)
    → get_or b p 0 ≡ 0xA8 → Ready b s k (p + 1) (end_of b p) st → Stands b p
    → q ≡ end_of b (p + 3) → ((rs : Roses) → Row b rs q (end_of b p) → (a ≡ many rs) × (q + 3 * a ≤ end_of b p))
    → x ≡ text_of b (p + 3) → Meaning b s k x (p + 6) a f → w ≡ call_width f.kind a
    → st₁ ≡ with_off st (start_of o (off st) w)
    → Passed b q a s s' k st₁ st₂ d d₁ → Failed s' f a st₂ st₃ d₁ d₂
    → v ≡ spot_of o (off st₃) → st₄ ≡ with_off st₃ (next_of o (off st₃) w)
    → CallPut b s' f k a v d₂ d₃ al r
    → Did b p s s' k o st st₄ d d₃ al r
unfolding term
call-did b p s s' k o q a w v r x f st st₁ st₂ st₃ st₄ d d₁ d₂ d₃ al tg y g eq h ex i ew e₁ m l ev e₄ u =
    did_of b p s s' k o st st₄ d d₃ al r y g made pd.kept pd.same
    (omega (arith, pd.nums, fst.num, snd.num, fourth.num, c.low))
    (omega (arith, pd.errs, fst.ers, snd.ers, fourth.ers, c.low, lost-few (get_or s' 3 0) a f))
  where
    c : Called b p q a
    c = call_known b p q a tg g eq h

    pd : Paid (q + a) (end_of b p) k s s' st₁ st₂
    pd = passed-paid b s s' k p q a o w f st st₁ st₂ d d₁ c y ew e₁ m

    fst : Stored st₁ (num st) (start_of o (off st) w) (ers st)
    fst = set-off st st₁ (start_of o (off st) w) e₁

    snd : Stored st₃ (num st₂) (off st₂) (ers st₂ + length (errs_bytes 2 (lost_errs (get_or s' 3 0) a f)))
    snd = second b s s' k p q a o w f st st₁ st₂ d d₁ c y ew e₁ m st₃ d₂ l

    fourth : Stored st₄ (num st₃) (next_of o (off st₃) w) (ers st₃)
    fourth = set-off st₃ st₄ (next_of o (off st₃) w) e₄

    at-eq : p + 6 ≡ p + 3 + 3
    at-eq = omega arith

    -- of one view and one call
    one : (vw : View) → Seen vw b s k → (ts : Terms) → Row b (f_terms ts rnil) q (end_of b p) → arity ts ≡ a
        → common.Made b p (called vw.top p x (p + 6) a (args vw.top ts (env_of vw b s k) (num st)) (env_of vw b s k) al) o st st₄ d d₃ r
    one vw n ts rw' ea =
        let E = env_of vw b s k in
        let G : Made (List ℕ) = args vw.top ts E (num st) in
        let n' = seen-kept vw b s s' k pd.kept pd.same n in
        let j = i vw n s' pd.kept pd.same in
        let M : Put G.more G.errs st₁ st₂ d d₁ × (numbers_of s' k a ≡ G.made) =
        subst (λ (z : ℕ). let o = args vw.top ts E z in Put o.more o.errs st₁ st₂ d d₁ × (numbers_of s' k a ≡ o.made)) fst.num (m.is vw n ts (end_of b p) rw' ea) in
        let q' : Out = called vw.top p x (p + 6) a G E al in
        let wd : w ≡ length (rec_bytes 2 q'.self) = ew ∙ called-wide vw b s' s k n E x (p + 6) a p al G f j (args-made vw.top ts E (num st) ∙ ea) in
        let put = called-put vw b s' s k n E x (p + 6) a p al G f j k v r d₂ d₃ (n'.0.view ∙ ap (λ (z : Env). outer vw + count z) n'.1) (sym M.1) u in
        let F : Put [] (lost_errs (get_or s' 3 0) a f) st₂ st₃ d₁ d₂ = put-fails (lost_errs (get_or s' 3 0) a f) st₂ st₃ d₁ d₂ l.state l.room in
        let P : Put G.more (G.errs ++ lost_errs (get_or s' 3 0) a f) st₁ st₃ d d₂ = put-errs G.more G.errs (lost_errs (get_or s' 3 0) a f) st₁ st₂ st₃ d d₁ d₂ M.0 F in
        let em = called_more vw b s' s k n E x (p + 6) a p al G f j in
        let ee = called-errs vw b s' s k n E x (p + 6) a p al G f j n'.0.base.home in
        let P' : Put q'.more q'.errs st₁ st₃ d d₂ =
        subst (λ (ms : List Rec). Put ms q'.errs st₁ st₃ d d₂) (sym em) (subst (λ (xs : List Err). Put G.more xs st₁ st₃ d d₂) (sym ee) P) in
        record {
          own = own-node q' o w v st st₁ st₃ st₄ d d₂ d₃ wd e₁ P' ev e₄ put.0;
          tail = put.1;
          wide = omega (arith, sym wd, ew, width_few f.kind a, ap (λ (ms : List Rec). length (table_bytes 2 ms)) em, M.0.offs, pd.offs, c.low);
        }

    made : (vw : View) → Seen vw b s k → (t : Term) → TermAt b t p → common.Made b p (term vw.top t (env_of vw b s k) (num st) al) o st st₄ d d₃ r
    made vw n = on_call b p (λ t. common.Made b p (term vw.top t (env_of vw b s k) (num st) al) o st st₄ d d₃ r) tg go
      where
        go : (ts : Terms) → CallAt b p ts → common.Made b p (term vw.top (t_call p (name_at b (p + 3)) ts) (env_of vw b s k) (num st) al) o st st₄ d d₃ r
        go ts z =
            let w' = args-all b p q a eq h ts z in
            let G : Made (List ℕ) = args vw.top ts (env_of vw b s k) (num st) in
            subst (λ (n : ℕ). common.Made b p (called vw.top p (text_of b (p + 3)) (p + 3 + 3) n G (env_of vw b s k) al) o st st₄ d d₃ r) (sym w'.1)
            (subst (λ (n : ℕ). common.Made b p (called vw.top p (text_of b (p + 3)) n a G (env_of vw b s k) al) o st st₄ d d₃ r) at-eq
            (subst (λ (t : Text). common.Made b p (called vw.top p t (p + 6) a G (env_of vw b s k) al) o st st₄ d d₃ r) ex (one vw n ts w'.0 w'.1)))
