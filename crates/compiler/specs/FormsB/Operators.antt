-- Operators: BinOp, and Pipe without a pattern. Assumes nothing.
use Rattle.std.specs.Prelude.{ℕ, zero, suc, ◌+◌, ◌-◌, ◌≤◌, ◌<◌, ◌≡◌, refl, Bool, true, false, cond, List, [], ◌∷◌, ◌++◌, eqb, ltb, length, get_or}
use Rattle.std.proofs.Common.{arith, sym, ap, ap₂, ◌∙◌, ne_eqb}
use Rattle.std.proofs.Math.Path.{subst}
use Rattle.std.proofs.Math.Option.{none}
use Rattle.std.specs.Int.Bits.{bit_or}
use Rattle.fields.specs.Number.{number}
use Rattle.fields.specs.Field.{field}
use Rattle.fields.specs.Room.{overlay}
use Rattle.tree.specs.Rose.{end_of}
use Rattle.tree.specs.Leaf.{is_operator}
use Rattle.tree.specs.Tree.{Term, OptPattern, no_pattern, o_alt, o_or, o_and, o_assign, o_update, o_update_alt, o_math, o_update_math, o_cmp, o_none, operator_of, operator, t_bin_op, t_pipe}
use Rattle.rules.specs.Table.{Node, n_pipe}
use Rattle.rules.specs.Tails.{empty, union}
use Rattle.rules.specs.Rows.{Env}
use Rattle.rules.specs.Outs.{Out, slot, size, left_allows, right_allows, binary}
use Rattle.rules.specs.Outs as outs
use Rattle.rules.specs.Listing.{node_bytes, opt_pat_bytes}
use Rattle.rules.specs.Rules.{term}
use Rattle.reads.specs.Bytes.{TermAt}
use Rattle.reads.specs.Widths.{op_width}
use Rattle.reads.specs.Lengths.{op-length}
use Rattle.reads.specs.Parts.{on-no-pattern}
use Rattle.reads.specs.Shapes.{BinAt, PipeAt, on-binop, on-pipe}
use Rattle.puts.specs.declared.state.State.{State}
use Rattle.puts.specs.State.{num, off, ers, start_of, spot_of, next_of, with_off}
use Rattle.puts.specs.Rooms.{put_then, put-none, own-node}
use Rattle.cells.specs.Cells.{View, Seen, env_of}
use Rattle.compiler.specs.Post.{Ready, Stands, Did, Laid}
use Rattle.compiler.specs.Common.{Made, did_of, mid-long}
use Rattle.compiler.specs.Moves.{Stored, set-off, keeps, ready-after, ready-part, ready-start, laid_as}

-- ---- what each side may return

-- an operator is none of no byte
pub operator-some : (x : ℕ) → is_operator x ≡ true → 0 < x
unfolding is_operator operator_of
operator-some zero e = absurd (subst (λ (t : Bool). cond t ⊥ (Unit {0})) e tt)
operator-some (suc x) e = omega arith

pub left-comma : (x al : ℕ) → x ≡ 1 → al ≡ left_allows (operator_of x) al
unfolding operator_of
left-comma x al e = rw e refl

pub left_other : (x al : ℕ) → (x ≡ 1 → ⊥) → 0 ≡ left_allows (operator_of x) al
unfolding operator_of
left_other x al n = rw (ne_eqb x 1 n) (go (eqb x 2) (eqb x 3) (eqb x 4) (eqb x 5) (eqb x 6) (eqb x 7) (ltb x 0x10) (ltb x 0x15) (ltb x 0x20) (ltb x 0x26) (ltb x 0x30) (ltb x 0x35))
  where
    go : (a c d e f g h i j k l m : Bool) → 0 ≡ left_allows (cond a o_alt (cond c o_or (cond d o_and (cond e o_assign (cond f o_update (cond g o_update_alt (cond h o_none (cond i (o_math (x - 0x10)) (cond j o_none (cond k (o_cmp (x - 0x20)) (cond l o_none (cond m (o_update_math (x - 0x30)) o_none)))))))))))) al
    go true c d e f g h i j k l m = refl
    go false true d e f g h i j k l m = refl
    go false false true e f g h i j k l m = refl
    go false false false true f g h i j k l m = refl
    go false false false false true g h i j k l m = refl
    go false false false false false true h i j k l m = refl
    go false false false false false false true i j k l m = refl
    go false false false false false false false true j k l m = refl
    go false false false false false false false false true k l m = refl
    go false false false false false false false false false true l m = refl
    go false false false false false false false false false false true m = refl
    go false false false false false false false false false false false true = refl
    go false false false false false false false false false false false false = refl

pub right-first : (x al : ℕ) → 0 < x → x < 3 → al ≡ right_allows (operator_of x) al
unfolding operator_of
right-first zero al g l = absurd (omega (arith, g))
right-first (suc zero) al g l = refl
right-first (suc (suc zero)) al g l = refl
right-first (suc (suc (suc x))) al g l = absurd (omega (arith, l))

pub right-other : (x al : ℕ) → (x < 3 → ⊥) → 0 ≡ right_allows (operator_of x) al
unfolding operator_of
right-other x al n =
    rw (ne_eqb x 1 (λ e. n (omega (arith, e))), ne_eqb x 2 (λ e. n (omega (arith, e))))
    (go (eqb x 3) (eqb x 4) (eqb x 5) (eqb x 6) (eqb x 7) (ltb x 0x10) (ltb x 0x15) (ltb x 0x20) (ltb x 0x26) (ltb x 0x30) (ltb x 0x35))
  where
    go : (c d e f g h i j k l m : Bool) → 0 ≡ right_allows (cond c o_or (cond d o_and (cond e o_assign (cond f o_update (cond g o_update_alt (cond h o_none (cond i (o_math (x - 0x10)) (cond j o_none (cond k (o_cmp (x - 0x20)) (cond l o_none (cond m (o_update_math (x - 0x30)) o_none))))))))))) al
    go true d e f g h i j k l m = refl
    go false true e f g h i j k l m = refl
    go false false true f g h i j k l m = refl
    go false false false true g h i j k l m = refl
    go false false false false true h i j k l m = refl
    go false false false false false true i j k l m = refl
    go false false false false false false true j k l m = refl
    go false false false false false false false true k l m = refl
    go false false false false false false false false true l m = refl
    go false false false false false false false false false true m = refl
    go false false false false false false false false false false true = refl
    go false false false false false false false false false false false = refl

-- ---- BinOp

pub op-small : (x : ℕ) → op_width x ≤ 8
unfolding op_width
op-small x = go (eqb x 3) (eqb x 4) (ltb x 16)
  where
    go : (a c d : Bool) → cond a 8 (cond c 8 (cond d 7 8)) ≤ 8
    go true c d = omega arith
    go false true d = omega arith
    go false false true = omega arith
    go false false false = omega arith

module _ (b : List ℕ) (p q x : ℕ) (P : Term → Type 0) where
  pub on-bin : get_or b p 0 ≡ 0xAD → q ≡ end_of b (p + 3) → get_or b q 0 ≡ 0xB9 → x ≡ get_or b (q + 3) 0
      → ((u v : Term) → BinAt b p q u v → P (t_bin_op p u q (x ∷ []) v)) → (t : Term) → TermAt b t p → P t
  on-bin e i n j f =
      on-binop b p P e (subst (λ (m : ℕ). get_or b m 0 ≡ 0xB9) i n)
      (λ u v at.
      subst (λ (m : ℕ). P (t_bin_op p u m (get_or b (m + 3) 0 ∷ []) v)) i
      (subst (λ (y : ℕ). P (t_bin_op p u q (y ∷ []) v)) j (f u v (subst (λ (m : ℕ). BinAt b p m u v) (sym i) at))))

module _ (b : List ℕ) (p q x : ℕ) (s : List ℕ) (k o w : ℕ) (st st₁ : State) (e : get_or b p 0 ≡ 0xAD) (i : q ≡ end_of b (p + 3)) (n : get_or b q 0 ≡ 0xB9) (j : x ≡ get_or b (q + 3) 0)
    (y : Ready b s k (p + 1) (end_of b p) st) (g : Stands b p) (h : w ≡ op_width x) (f : st₁ ≡ with_off st (start_of o (off st) w)) where
  -- the operator's byte
  pub binop-byte : (q + 4 ≤ length b) × (is_operator x ≡ true)
  binop-byte = on-bin b p q x (λ _. (q + 4 ≤ length b) × (is_operator x ≡ true)) e i n j (λ u v a. (omega (arith, a.one, a.mid), subst (λ (m : ℕ). is_operator m ≡ true) (sym j) a.is)) g.0 g.1

  pub binop-left : Ready b s k (p + 3) (end_of b (p + 3)) st₁ × Stands b (p + 3)
  binop-left =
      on-bin b p q x (λ _. Ready b s k (p + 3) (end_of b (p + 3)) st₁ × Stands b (p + 3)) e i n j
      (λ u v a. (ready-start b s k (p + 1) (p + 3) (end_of b p) (end_of b (p + 3)) o w st st₁ y (omega arith) (omega arith) (omega (arith, i, a.last)) (omega (arith, h, op-small x)) f, (u, a.left))) g.0 g.1

  pub binop-right : (s₁ : List ℕ) (st₂ : State) (d d₁ : List ℕ) (al r : ℕ) → Laid b (p + 3) s s₁ k st₁ st₂ d d₁ al r → Ready b s₁ k (q + 4) (end_of b (q + 4)) st₂ × Stands b (q + 4)
  binop-right s₁ st₂ d d₁ al r m =
      on-bin b p q x (λ _. Ready b s₁ k (q + 4) (end_of b (q + 4)) st₂ × Stands b (q + 4)) e i n j
      (λ u v a.
      let c = ready-start b s k (p + 1) (p + 3) (end_of b p) (end_of b p) o w st st₁ y (omega arith) (omega (arith, i, a.last)) (omega arith) (omega (arith, h, op-small x)) f in
      let l = ready-after b s s₁ k (p + 3) (p + 3 + 1) (end_of b (p + 3)) (end_of b p) st₁ st₂ c (omega arith) (omega arith) (omega (arith, i, a.last)) m.paid in
      (ready-part b s₁ k (end_of b (p + 3)) (q + 4) (end_of b p) (end_of b (q + 4)) st₂ l (omega (arith, i)) (omega arith) (omega (arith, a.last)), (v, a.right))) g.0 g.1

  pub binop-did : (s₁ s₂ : List ℕ) (a c z rl rr : ℕ) (st₂ st₃ st₄ : State) (d d₁ d₂ d₃ : List ℕ) (al : ℕ) → a ≡ num st₁
      → Laid b (p + 3) s s₁ k st₁ st₂ d d₁ (left_allows (operator_of x) al) rl → c ≡ num st₂
      → Laid b (q + 4) s₁ s₂ k st₂ st₃ d₁ d₂ (right_allows (operator_of x) al) rr
      → z ≡ spot_of o (off st₃) → st₄ ≡ with_off st₃ (next_of o (off st₃) w) → d₃ ≡ overlay d₂ z (node_bytes 2 (binary (operator (x ∷ [])) a c))
      → Did b p s s₂ k o st st₄ d d₃ al (bit_or rl rr)
  unfolding term
  binop-did s₁ s₂ a c z rl rr st₂ st₃ st₄ d d₁ d₂ d₃ al a₁ ml c₂ mr zx f₄ pt =
      did_of b p s s₂ k o st st₄ d d₃ al (bit_or rl rr) y g
      (λ vw v. on-bin b p q x (λ t. Made b p (term vw.top t (env_of vw b s k) (num st) al) o st st₄ d d₃ (bit_or rl rr)) e i n j (is vw v))
      (mr.paid.kept ∙ ml.paid.kept) (mr.paid.same ∙ ml.paid.same)
      (omega (arith, ml.paid.nums, mr.paid.nums, t₁.num, t₄.num, last, i))
      (omega (arith, ml.paid.errs, mr.paid.errs, t₁.ers, t₄.ers, last, i))
    where
      last : end_of b (q + 4) ≡ end_of b p
      last = on-bin b p q x (λ _. end_of b (q + 4) ≡ end_of b p) e i n j (λ u v m. m.last) g.0 g.1

      t₁ : Stored st₁ (num st) (start_of o (off st) w) (ers st)
      t₁ = set-off st st₁ (start_of o (off st) w) f

      t₄ : Stored st₄ (num st₃) (next_of o (off st₃) w) (ers st₃)
      t₄ = set-off st₃ st₄ (next_of o (off st₃) w) f₄

      is : (vw : View) → Seen vw b s k → (u v : Term) → BinAt b p q u v → Made b p (term vw.top (t_bin_op p u q (x ∷ []) v) (env_of vw b s k) (num st) al) o st st₄ d d₃ (bit_or rl rr)
      is vw v u u' at =
          let e₀ : Env = env_of vw b s k in
          let A : Out = term vw.top u e₀ (suc (num st)) (left_allows (operator_of x) al) in
          let B : Out = term vw.top u' e₀ (suc (num st + size A)) (right_allows (operator_of x) al) in
          let N : Node = binary (operator_of x) (num st) (num st + size A) in
          let pa = laid_as b (p + 3) s s₁ k st₁ st₂ d d₁ (left_allows (operator_of x) al) rl vw e₀ (num st) u ml v refl t₁.num at.left in
          let n₂ : num st₂ ≡ num st + size A = pa.0.nums ∙ ap (λ (m : ℕ). m + size A) t₁.num in
          let kv = keeps b s s₁ k (p + 3 + 1) (end_of b (p + 3)) st₁ st₂ ml.paid vw v in
          let pb = laid_as b (q + 4) s₁ s₂ k st₂ st₃ d₁ d₂ (right_allows (operator_of x) al) rr vw e₀ (num st + size A) u' mr kv.0 kv.1 n₂ at.right in
          let pab = put_then (slot A) (slot B) A.errs B.errs st₁ st₂ st₃ d d₁ d₂ pa.0 pb.0 in
          let wl : w ≡ length (node_bytes 2 N) = h ∙ sym (op-length x (num st) (num st + size A) binop-byte.1) in
          record {
            own =
                own-node (outs.node p N (slot A ++ slot B) (A.errs ++ B.errs) (union A.tail B.tail)) o w z st st₁ st₃ st₄ d d₂ d₃ wl f pab zx f₄
                (pt ∙ ap₂ (λ (m l : ℕ). overlay d₂ z (node_bytes 2 (binary (operator_of x) m l))) (a₁ ∙ t₁.num) (c₂ ∙ n₂));
            tail = ap₂ bit_or pa.1 pb.1;
            wide = omega (arith, wl, h, op-small x, pab.offs, ml.paid.offs, mr.paid.offs, at.last, i);
          }

-- ---- Pipe without a pattern

module _ (b : List ℕ) (p q : ℕ) (P : Term → Type 0) where
  pub on-piped : get_or b p 0 ≡ 0xAD → q ≡ end_of b (p + 3) → get_or b q 0 ≡ 0xB7
      → ((u : Term) (x : OptPattern) (v : Term) → PipeAt b p q u x v → P (t_pipe p u q x v)) → (t : Term) → TermAt b t p → P t
  on-piped e i n f =
      on-pipe b p P e (subst (λ (m : ℕ). get_or b m 0 ≡ 0xB7) i n)
      (λ u x v at. subst (λ (m : ℕ). P (t_pipe p u m x v)) i (f u x v (subst (λ (m : ℕ). PipeAt b p m u x v) (sym i) at)))

  pub on-bare-pipe : get_or b p 0 ≡ 0xAD → q ≡ end_of b (p + 3) → get_or b q 0 ≡ 0xB7 → end_of b q ≡ q + 3
      → ((u v : Term) → PipeAt b p q u no_pattern v → P (t_pipe p u q no_pattern v)) → (t : Term) → TermAt b t p → P t
  on-bare-pipe e i n z f =
      on-piped e i n (λ u x v at. on-no-pattern b (q + 3) (end_of b q) (λ y. PipeAt b p q u y v → P (t_pipe p u q y v)) (omega (arith, z)) (λ a. f u v a) x at.pat at)

module _ (b : List ℕ) (p q : ℕ) (s : List ℕ) (k o : ℕ) (st st₁ : State) (e : get_or b p 0 ≡ 0xAD) (i : q ≡ end_of b (p + 3)) (n : get_or b q 0 ≡ 0xB7) (j : end_of b q ≡ q + 3)
    (y : Ready b s k (p + 1) (end_of b p) st) (g : Stands b p) (f : st₁ ≡ with_off st (start_of o (off st) 8)) where
  pub pipe-left : Ready b s k (p + 3) (end_of b (p + 3)) st₁ × Stands b (p + 3)
  pipe-left =
      on-bare-pipe b p q (λ _. Ready b s k (p + 3) (end_of b (p + 3)) st₁ × Stands b (p + 3)) e i n j
      (λ u v a. (ready-start b s k (p + 1) (p + 3) (end_of b p) (end_of b (p + 3)) o 8 st st₁ y (omega arith) (omega arith) (omega (arith, i, j, a.last)) (omega arith) f, (u, a.left))) g.0 g.1

  pub pipe-right : (s₁ : List ℕ) (st₂ : State) (d d₁ : List ℕ) (al r : ℕ) → Laid b (p + 3) s s₁ k st₁ st₂ d d₁ al r → Ready b s₁ k (q + 3) (end_of b (q + 3)) st₂ × Stands b (q + 3)
  pipe-right s₁ st₂ d d₁ al r m =
      on-bare-pipe b p q (λ _. Ready b s₁ k (q + 3) (end_of b (q + 3)) st₂ × Stands b (q + 3)) e i n j
      (λ u v a.
      let end : end_of b (q + 3) ≡ end_of b p = subst (λ (z : ℕ). end_of b z ≡ end_of b p) j a.last in
      let c = ready-start b s k (p + 1) (p + 3) (end_of b p) (end_of b p) o 8 st st₁ y (omega arith) (omega (arith, i, end)) (omega arith) (omega arith) f in
      let l = ready-after b s s₁ k (p + 3) (p + 3 + 1) (end_of b (p + 3)) (end_of b p) st₁ st₂ c (omega arith) (omega arith) (omega (arith, i, end)) m.paid in
      (ready-part b s₁ k (end_of b (p + 3)) (q + 3) (end_of b p) (end_of b (q + 3)) st₂ l (omega (arith, i)) (omega arith) (omega (arith, end)), (v, subst (λ (z : ℕ). TermAt b v z) j a.right))) g.0 g.1

  pub pipe-did : (s₁ s₂ : List ℕ) (a c z rl rr : ℕ) (st₂ st₃ st₄ : State) (d d₁ d₂ d₃ : List ℕ) (al : ℕ) → a ≡ num st₁
      → Laid b (p + 3) s s₁ k st₁ st₂ d d₁ 0 rl → c ≡ num st₂
      → Laid b (q + 3) s₁ s₂ k st₂ st₃ d₁ d₂ al rr
      → z ≡ spot_of o (off st₃) → st₄ ≡ with_off st₃ (next_of o (off st₃) 8) → d₃ ≡ overlay d₂ z (field 0x5E (number 2 a ++ (0 ∷ number 2 c)))
      → Did b p s s₂ k o st st₄ d d₃ al rr
  unfolding term opt_pat_bytes
  pipe-did s₁ s₂ a c z rl rr st₂ st₃ st₄ d d₁ d₂ d₃ al a₁ ml c₂ mr zx f₄ pt =
      did_of b p s s₂ k o st st₄ d d₃ al rr y g
      (λ vw v. on-bare-pipe b p q (λ t. Made b p (term vw.top t (env_of vw b s k) (num st) al) o st st₄ d d₃ rr) e i n j (is vw v))
      (mr.paid.kept ∙ ml.paid.kept) (mr.paid.same ∙ ml.paid.same)
      (omega (arith, ml.paid.nums, mr.paid.nums, t₁.num, t₄.num, last, i))
      (omega (arith, ml.paid.errs, mr.paid.errs, t₁.ers, t₄.ers, last, i))
    where
      last : end_of b (q + 3) ≡ end_of b p
      last = on-bare-pipe b p q (λ _. end_of b (q + 3) ≡ end_of b p) e i n j (λ u v m. subst (λ (h : ℕ). end_of b h ≡ end_of b p) j m.last) g.0 g.1

      t₁ : Stored st₁ (num st) (start_of o (off st) 8) (ers st)
      t₁ = set-off st st₁ (start_of o (off st) 8) f

      t₄ : Stored st₄ (num st₃) (next_of o (off st₃) 8) (ers st₃)
      t₄ = set-off st₃ st₄ (next_of o (off st₃) 8) f₄

      is : (vw : View) → Seen vw b s k → (u v : Term) → PipeAt b p q u no_pattern v → Made b p (term vw.top (t_pipe p u q no_pattern v) (env_of vw b s k) (num st) al) o st st₄ d d₃ rr
      is vw v u u' at =
          let e₀ : Env = env_of vw b s k in
          let A : Out = term vw.top u e₀ (suc (num st)) empty in
          let B : Out = term vw.top u' e₀ (suc (num st + size A)) al in
          let N : Node = n_pipe (num st) none (num st + size A) in
          let pa = laid_as b (p + 3) s s₁ k st₁ st₂ d d₁ 0 rl vw e₀ (num st) u ml v refl t₁.num at.left in
          let n₂ : num st₂ ≡ num st + size A = pa.0.nums ∙ ap (λ (m : ℕ). m + size A) t₁.num in
          let kv = keeps b s s₁ k (p + 3 + 1) (end_of b (p + 3)) st₁ st₂ ml.paid vw v in
          let pb = laid_as b (q + 3) s₁ s₂ k st₂ st₃ d₁ d₂ al rr vw e₀ (num st + size A) u' mr kv.0 kv.1 n₂ (subst (λ (h : ℕ). TermAt b u' h) j at.right) in
          let pb₀ = put_then (slot B) [] B.errs [] st₂ st₃ st₃ d₁ d₂ d₂ pb.0 (put-none st₃ d₂) in
          let pab = put_then (slot A) (slot B ++ []) A.errs (B.errs ++ []) st₁ st₂ st₃ d d₁ d₂ pa.0 pb₀ in
          let wl : 8 ≡ length (node_bytes 2 N) = mid-long 0x5E (num st) 0 (num st + size A) in
          record {
            own =
                own-node (outs.node p N (slot A ++ (slot B ++ [])) (A.errs ++ (B.errs ++ [])) B.tail) o 8 z st st₁ st₃ st₄ d d₂ d₃ wl f pab zx f₄
                (pt ∙ ap₂ (λ (m l : ℕ). overlay d₂ z (field 0x5E (number 2 m ++ (0 ∷ number 2 l)))) (a₁ ∙ t₁.num) (c₂ ∙ n₂));
            tail = pb.1;
            wide = omega (arith, wl, pab.offs, ml.paid.offs, mr.paid.offs, last, i);
          }
