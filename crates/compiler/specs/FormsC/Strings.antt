-- Strings: parts, rows of parts. Assumes nothing.
use Rattle.std.specs.Prelude.{ℕ, suc, ◌+◌, ◌*◌, ◌≤◌, ◌<◌, ◌≡◌, refl, ◌⊎◌, List, ◌∷◌, map, length, get_or}
use Rattle.std.proofs.Common.{arith, sym, ap, ap₂, subst, ◌∙◌, inl, inr}
use Rattle.std.proofs.Math.Option.{none}
use Rattle.fields.specs.Number.{value}
use Rattle.fields.specs.Field.{length-field}
use Rattle.text.specs.Utf8.{utf8}
use Rattle.tree.specs.Rose.{end_of, text_of, rnil, Row, row-le}
use Rattle.tree.specs.Tree.{StrParts, s_cons, StrPart, s_text, s_char}
use Rattle.tree.specs.Form.{f_str_parts, f_str_part}
use Rattle.rules.specs.Table.{Node}
use Rattle.rules.specs.Rows.{Env}
use Rattle.rules.specs.Outs.{Out}
use Rattle.rules.specs.Listing.{node_bytes, opt_pat_bytes}
use Rattle.rules.specs.Rules.{term, string}
use Rattle.reads.specs.Bytes.{name_at}
use Rattle.reads.specs.Lengths.{pipe-length}
use Rattle.reads.specs.Parts.{row_fits}
use Rattle.reads.specs.Shapes.{StrPartAt, LeafAt, on-text-part, on-char-part, on-term-part, on-strings-cons, on-strings-nil, text-length}
use Rattle.puts.specs.declared.state.State.{State}
use Rattle.puts.specs.State.{num, off, Put}
use Rattle.puts.specs.Rooms.{put-none, put_then}
use Rattle.puts.specs.Runs.{utf8-few}
use Rattle.cells.specs.Cells.{View, Seen, env_of, noted, number_at, last_at}
use Rattle.cells.specs.Notes.{strings_of, held, held_errs, string_node, string_nodes}
use Rattle.records.specs.Sums.{sizes, StringNotes}
use Rattle.compiler.specs.Post.{Ready, Stands, Laid, Strung}
use Rattle.compiler.specs.Pieces.{StringIs}
use Rattle.compiler.specs.Moves.{kept_less, ready-part}
use Rattle.compiler.specs.FormsC.Noting.{Noting, noting, note-room, note-few, ready-noted, seen-then, number-kept, last-kept, kind-kept}
use Rattle.compiler.specs.FormsC.Sums.{string-node}

-- ---- a part

-- some part of a string stands at q
abbrev pub StringHere : List ℕ → ℕ → Type 0
StringHere b q = (x : StrPart) × StrPartAt b x q

pub string-fits : (b : List ℕ) (q : ℕ) → StringHere b q → end_of b q ≤ length b
string-fits b q g = row_fits b (f_str_part g.0) rnil q (end_of b q) g.1

pub string-stands : (b : List ℕ) (q : ℕ) → (get_or b q 0 ≡ 0xBB → ⊥) → (get_or b q 0 ≡ 0xBC → ⊥) → StringHere b q → Stands b q
string-stands b q n m g = on-term-part b q (λ _. Stands b q) n m (λ t h. (t, h)) g.0 g.1

-- a text or a character contains nothing
pub string-text : (b : List ℕ) (q : ℕ) (s : List ℕ) (k : ℕ) (st : State) (d : List ℕ) → (get_or b q 0 ≡ 0xBB) ⊎ (get_or b q 0 ≡ 0xBC) → StringIs b q s s k st st d d
unfolding term string_node
string-text b q s k st d e =
    record {
      is = λ vw v x p f h. one (λ (x : StrPart). let a = string vw.top x p f (env_of vw b s k) (num st) in Put a.more a.errs st st d d) e (λ l. put-none st d) (λ l. put-none st d) x h;
      wide = λ x f n h.
          one (λ (x : StrPart). off st + (8 + length (node_bytes 2 (string_node x f n))) + 64 * q ≤ off st + 64 * end_of b q) e
          (λ l. omega (arith, length-field 0x55 (text_of b q), text-length b q l.fits))
          (λ l. omega (arith, length-field 0x55 (utf8 (value (text_of b q))), utf8-few (value (text_of b q)))) x h;
      paid = record { kept = refl; same = refl; nums = omega arith; offs = omega arith; errs = omega arith };
    }
  where
    one : (P : StrPart → Type 0) → (get_or b q 0 ≡ 0xBB) ⊎ (get_or b q 0 ≡ 0xBC) → (LeafAt b 0xBB q → P (s_text (name_at b q))) → (LeafAt b 0xBC q → P (s_char (record { place = q; bytes = text_of b q })))
        → (x : StrPart) → StrPartAt b x q → P x
    one P (inl i) f g x h = on-text-part b q P i f x h
    one P (inr i) f g x h = on-char-part b q P i g x h

pub string-term : (b : List ℕ) (q : ℕ) (s s' : List ℕ) (k : ℕ) (st st' : State) (d d' : List ℕ) (r : ℕ) → (get_or b q 0 ≡ 0xBB → ⊥) → (get_or b q 0 ≡ 0xBC → ⊥) → Laid b q s s' k st st' d d' 0 r
    → StringIs b q s s' k st st' d d'
unfolding term string_node opt_pat_bytes
string-term b q s s' k st st' d d' r n m a =
    record {
      is = λ vw v x p f. on-term-part b q (λ (x : StrPart). let o = string vw.top x p f (env_of vw b s k) (num st) in Put o.more o.errs st st' d d') n m (λ t h. (a.is vw v t h).0) x;
      wide = λ x f i. on-term-part b q (λ (x : StrPart). off st' + (8 + length (node_bytes 2 (string_node x f i))) + 64 * q ≤ off st + 64 * end_of b q) n m (λ t h. omega (arith, a.paid.offs, pipe-length i f none)) x;
      paid = a.paid;
    }

-- ---- a row of parts

-- some parts stand from p up to z
abbrev pub StringsHere : List ℕ → ℕ → ℕ → Type 0
StringsHere b p z = (xs : StrParts) × Row b (f_str_parts xs rnil) p z

pub strings-head : (b : List ℕ) (p z : ℕ) → p < z → StringsHere b p z → StringHere b p × StringsHere b (end_of b p) z
strings-head b p z l g = on-strings-cons b p z (λ _. StringHere b p × StringsHere b (end_of b p) z) l (λ x xs h i j. ((x, h), (xs, j))) g.0 g.1

-- of what the parts contain, and of their notes
abbrev StrungAs : List ℕ → List ℕ → ℕ → List ℕ → State → State → List ℕ → List ℕ → ℕ → View → StrParts → ℕ → ℕ → Type 0
StrungAs b s k s' st st' d d' r vw xs p f =
    let os = strings_of vw.top xs p f (env_of vw b s k) (num st) in
    Put (held os) (held_errs os) st st' d d' × (string_nodes s' xs f k ≡ map (λ (o : Out). o.self.node) os) × (r ≡ k + length os)

pub strings-nil : (b : List ℕ) (p z : ℕ) (s : List ℕ) (k : ℕ) (st : State) (d : List ℕ) → z ≤ p → StringsHere b p z → Strung b p z s s k st st d d k
unfolding strings_of held held_errs string_nodes sizes StringNotes
strings-nil b p z s k st d l g =
    let e : p ≤ z = row-le b (f_str_parts g.0 rnil) p z g.1 in
    record {
      is = λ vw v xs o f. on-strings-nil b p z (λ (xs : StrParts). StrungAs b s k s st st d d k vw xs o f) l (put-none st d, refl, omega arith) xs;
      notes = on-strings-nil b p z (λ (xs : StrParts). StringNotes b s xs k) l tt;
      rows = omega (arith, e);
      wide = λ xs f. on-strings-nil b p z (λ (xs : StrParts). off st + sizes (string_nodes s xs f k) + 64 * p ≤ off st + 64 * z) l (omega (arith, e)) xs;
      paid = record { kept = refl; same = refl; nums = omega (arith, e); offs = omega (arith, e); errs = omega (arith, e) };
    }

pub strings-cons : (b : List ℕ) (p z : ℕ) (s s₁ s₂ s' : List ℕ) (k a : ℕ) (st st₁ st' : State) (d d₁ d' : List ℕ) (r : ℕ) → p < z → a ≡ num st → StringIs b p s s₁ k st st₁ d d₁ → Noting b s₁ s₂ k 7 a p
    → Strung b (end_of b p) z s₂ s' (k + 1) st₁ st' d₁ d' r → Strung b p z s s' k st st' d d' r
unfolding strings_of held held_errs string_nodes sizes StringNotes
strings-cons b p z s s₁ s₂ s' k a st st₁ st' d d₁ d' r l a₀ m n c =
    record {
      is = λ vw v xs o f. on-strings-cons b p z (λ (xs : StrParts). StrungAs b s k s' st st' d d' r vw xs o f) l (is vw v o f) xs;
      notes = on-strings-cons b p z (λ (xs : StrParts). StringNotes b s' xs k) l
          (λ x xs h i j. (kind-kept k s₂ s' c.paid.kept ∙ n.kinds, subst (λ (u : ℕ). StrPartAt b x u) (sym at) h, subst (λ (u : ℕ). StringNotes b s' xs u) next (c.notes xs j)));
      rows = omega (arith, c.rows);
      wide = λ xs f. on-strings-cons b p z (λ (xs : StrParts). off st' + sizes (string_nodes s' xs f k) + 64 * p ≤ off st + 64 * z) l
          (λ x xs h i j. omega (arith, m.wide x f (number_at s' k) h, c.wide xs f j, ap (λ (u : ℕ). sizes (string_nodes s' xs f u)) next)) xs;
      paid = record {
        kept = kept_less k (k + 1) s₂ s' (omega arith) c.paid.kept ∙ n.kept ∙ m.paid.kept;
        same = c.paid.same ∙ n.same ∙ m.paid.same;
        nums = omega (arith, m.paid.nums, c.paid.nums);
        offs = omega (arith, m.paid.offs, c.paid.offs);
        errs = omega (arith, m.paid.errs, c.paid.errs);
      };
    }
  where
    next : k + 1 ≡ suc k
    next = omega arith

    at : last_at s' k ≡ p
    at = last-kept k s₂ s' c.paid.kept ∙ n.last

    is : (vw : View) → Seen vw b s k → (o f : ℕ) (x : StrPart) (xs : StrParts) → StrPartAt b x p → end_of b p ≤ length b → Row b (f_str_parts xs rnil) (end_of b p) z → StrungAs b s k s' st st' d d' r vw (s_cons x xs) o f
    is vw v o f x xs h i j =
        let E = env_of vw b s k in
        let A = string vw.top x o f E (num st) in
        let B = strings_of vw.top xs o f E (num st + length A.more) in
        let w = seen-then b s s₁ s₂ k (p + 1) (end_of b p) 7 a p st st₁ m.paid n vw v in
        let q = m.is vw v x o f h in
        let t : Put (held B) (held_errs B) st₁ st' d₁ d' × (string_nodes s' xs f (k + 1) ≡ map (λ (o : Out). o.self.node) B) × (r ≡ k + 1 + length B) =
        subst (λ (n : ℕ). let os = strings_of vw.top xs o f E n in Put (held os) (held_errs os) st₁ st' d₁ d' × (string_nodes s' xs f (k + 1) ≡ map (λ (o : Out). o.self.node) os) × (r ≡ k + 1 + length os)) q.nums
        (subst (λ (F : Env). let os = strings_of vw.top xs o f F (num st₁) in Put (held os) (held_errs os) st₁ st' d₁ d' × (string_nodes s' xs f (k + 1) ≡ map (λ (o : Out). o.self.node) os) × (r ≡ k + 1 + length os)) w.1 (c.is vw w.0 xs o f j)) in (
          put_then A.more (held B) A.errs (held_errs B) st st₁ st' d d₁ d' q t.0,
          ap₂ (λ (y : Node) (ys : List Node). y ∷ ys)
              (ap (string_node x f) (number-kept k s₂ s' c.paid.kept ∙ n.number ∙ a₀) ∙ sym (string-node vw.top x o f E (num st)))
              (ap (string_nodes s' xs f) (sym next) ∙ t.1),
          omega (arith, t.2),
        )

-- the loop over them: p is the next part's place, i its row
pub record Stringing (b : List ℕ) (q z : ℕ) (s₀ : List ℕ) (k : ℕ) (st₀ : State) (d₀ : List ℕ) (p i : ℕ) (s : List ℕ) (st : State) (d : List ℕ) : Type 0 where
  pub goes : (s' : List ℕ) (st' : State) (d' : List ℕ) (r : ℕ) → Strung b p z s s' i st st' d d' r → Strung b q z s₀ s' k st₀ st' d₀ d' r
  pub low : q ≤ p
  pub ready : Ready b s i p z st
  pub here : StringsHere b p z
  pub same : length s ≡ length s₀
  pub room : length d ≡ length d₀

-- p is where the next one stands
pub strings-on : (b : List ℕ) (q z : ℕ) (s₀ : List ℕ) (k : ℕ) (st₀ : State) (d₀ : List ℕ) (n p i : ℕ) (s : List ℕ) (st : State) (d : List ℕ) → n ≡ p → Stringing b q z s₀ k st₀ d₀ n i s st d → Stringing b q z s₀ k st₀ d₀ p i s st d
strings-on b q z s₀ k st₀ d₀ n p i s st d e g = subst (λ (r : ℕ). Stringing b q z s₀ k st₀ d₀ r i s st d) e g

pub strings-start : (b : List ℕ) (q z : ℕ) (s : List ℕ) (k : ℕ) (st : State) (d : List ℕ) → Ready b s k q z st → StringsHere b q z → Stringing b q z s k st d q k s st d
strings-start b q z s k st d y g = record { goes = λ s' st' d' r f. f; low = omega arith; ready = y; here = g; same = refl; room = refl }

-- the note of the part at p
pub string-noted : (b s s₁ s₂ : List ℕ) (k p a : ℕ) (st st₁ : State) (d d₁ : List ℕ) → Ready b s k p (end_of b p) st → StringHere b p → a ≡ num st → StringIs b p s s₁ k st st₁ d d₁ → s₂ ≡ noted s₁ k 7 a p → Noting b s₁ s₂ k 7 a p
string-noted b s s₁ s₂ k p a st st₁ d d₁ y g a₀ m f =
    noting b s₁ s₂ k 7 a p (omega (arith, note-room b s k p (end_of b p) st y (omega arith), m.paid.same))
    (omega (arith, a₀, note-few b s k p (end_of b p) st y (omega arith))) (omega arith) (omega arith) f

-- the part at p is ready
pub strings-next : (b : List ℕ) (q z : ℕ) (s₀ : List ℕ) (k : ℕ) (st₀ : State) (d₀ : List ℕ) (p i : ℕ) (s : List ℕ) (st : State) (d : List ℕ) → Stringing b q z s₀ k st₀ d₀ p i s st d → p < z
    → Ready b s i p (end_of b p) st × StringHere b p
strings-next b q z s₀ k st₀ d₀ p i s st d v l =
    let h = strings-head b p z l v.here in
    (ready-part b s i p p z (end_of b p) st v.ready (omega arith) (omega arith) (row-le b (f_str_parts h.1.0 rnil) (end_of b p) z h.1.1), h.0)

pub strings-more : (b : List ℕ) (q z : ℕ) (s₀ : List ℕ) (k : ℕ) (st₀ : State) (d₀ : List ℕ) (p i a : ℕ) (s : List ℕ) (st : State) (d s₁ s₂ : List ℕ) (st₁ : State) (d₁ : List ℕ) → Stringing b q z s₀ k st₀ d₀ p i s st d → p < z
    → a ≡ num st → StringIs b p s s₁ i st st₁ d d₁ → s₂ ≡ noted s₁ i 7 a p → Stringing b q z s₀ k st₀ d₀ (end_of b p) (i + 1) s₂ st₁ d₁
strings-more b q z s₀ k st₀ d₀ p i a s st d s₁ s₂ st₁ d₁ v l a₀ m f =
    let h = strings-head b p z l v.here in
    let n = string-noted b s s₁ s₂ i p a st st₁ d d₁ (strings-next b q z s₀ k st₀ d₀ p i s st d v l).0 h.0 a₀ m f in
    record {
      goes = λ s' st' d' r c. v.goes s' st' d' r (strings-cons b p z s s₁ s₂ s' i a st st₁ st' d d₁ d' r l a₀ m n c);
      low = omega (arith, v.low);
      ready = ready-noted b s s₁ s₂ i p (p + 1) (end_of b p) z 7 a p st st₁ v.ready (omega arith) (omega arith) (omega arith) (row-le b (f_str_parts h.1.0 rnil) (end_of b p) z h.1.1) m.paid n;
      here = h.1;
      same = n.same ∙ m.paid.same ∙ v.same;
      room = (m.is v.ready.view v.ready.seen h.0.0 0 0 h.0.1).size ∙ v.room;
    }

-- the same, x being where the part ends
pub strings-again : (b : List ℕ) (q z : ℕ) (s₀ : List ℕ) (k : ℕ) (st₀ : State) (d₀ : List ℕ) (p i a x : ℕ) (s : List ℕ) (st : State) (d s₁ s₂ : List ℕ) (st₁ : State) (d₁ : List ℕ) → Stringing b q z s₀ k st₀ d₀ p i s st d → p < z
    → a ≡ num st → StringIs b p s s₁ i st st₁ d d₁ → s₂ ≡ noted s₁ i 7 a p → x ≡ end_of b p → Stringing b q z s₀ k st₀ d₀ x (i + 1) s₂ st₁ d₁
strings-again b q z s₀ k st₀ d₀ p i a x s st d s₁ s₂ st₁ d₁ v l a₀ m f x₀ =
    subst (λ (x : ℕ). Stringing b q z s₀ k st₀ d₀ x (i + 1) s₂ st₁ d₁) (sym x₀) (strings-more b q z s₀ k st₀ d₀ p i a s st d s₁ s₂ st₁ d₁ v l a₀ m f)

pub strings-done : (b : List ℕ) (q z : ℕ) (s₀ : List ℕ) (k : ℕ) (st₀ : State) (d₀ : List ℕ) (p i : ℕ) (s : List ℕ) (st : State) (d : List ℕ) → Stringing b q z s₀ k st₀ d₀ p i s st d → z ≤ p → Strung b q z s₀ s k st₀ st d₀ d i
strings-done b q z s₀ k st₀ d₀ p i s st d v l = v.goes s st d i (strings-nil b p z s i st d l v.here)
