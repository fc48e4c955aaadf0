-- From fields that obey the grammar to what they mean, for any meaning of the classes. Assumes nothing.
use Rattle.std.specs.Prelude.{ℕ, ◌≡◌, List, ◌⊎◌, Bool, cond, T}
use Rattle.std.proofs.Math.Path.{refl, ap}
use Rattle.std.proofs.Common.{sym, subst, ◌∙◌, eqb→eq, eq-eqb}
use Rattle.std.proofs.Math.Logic.{inl, inr}
use Rattle.std.proofs.Math.Bool.{true, false}
use Rattle.std.proofs.Math.Dec.{eqb}
use Rattle.tree.specs.Rose.{Rose, Roses, leaf, node, rnil, rcons, tag_of}
use Rattle.tree.specs.Leaf.{class, is_leaf_tag}
use Rattle.tree.specs.Grammar.{Items, dead, end, one, opt, many, mix, term, after, ends, fit, content, Obeys, Obey}

pub not-both : {A : Type 0} (x : Bool) → x ≡ true → x ≡ false → A
not-both x p q = let z : ◌≡◌ {A = Bool} true false = sym p ∙ q in absurd (subst (λ (y : Bool). T y) z tt)

-- no row follows where none can
pub dead-fit : (rs : Roses) → fit dead rs ≡ false
unfolding fit after ends
dead-fit rnil = refl
dead-fit (rcons r rs) = dead-fit rs

eqb-sym : (a b : ℕ) → eqb a b ≡ true → eqb b a ≡ true
eqb-sym a b e = eq-eqb b a (sym (eqb→eq a b (subst (λ (y : Bool). T y) (sym e) tt)))

-- one row after another
abbrev pub cat : Roses → Roses → Roses
cat rnil ys = ys
cat (rcons x xs) ys = rcons x (cat xs ys)

module _ (M : ℕ → Rose → Type 0) where
  abbrev pub Each : ℕ → Roses → Type 0
  Each k rnil = Unit {0}
  Each k (rcons r rs) = M k r × Each k rs

  -- each of class k, or a term
  abbrev pub Mixed : ℕ → Roses → Type 0
  Mixed k rnil = Unit {0}
  Mixed k (rcons r rs) = (M k r ⊎ M term r) × Mixed k rs

  -- the members, item by item
  abbrev pub Match : Items → Roses → Type 0
  Match dead rs = ⊥
  Match end rs = rs ≡ rnil
  Match (one k g) rs = (r : Rose) × (ys : Roses) × (rs ≡ rcons r ys) × M k r × Match g ys
  Match (opt k g) rs = ((r : Rose) × (ys : Roses) × (rs ≡ rcons r ys) × M k r × Match g ys) ⊎ Match g rs
  Match (many k g) rs = (xs : Roses) × (ys : Roses) × (rs ≡ cat xs ys) × Each k xs × Match g ys
  Match (mix k g) rs = (xs : Roses) × (ys : Roses) × (rs ≡ cat xs ys) × Mixed k xs × Match g ys

  -- what each tag has to give
  abbrev pub Step : ℕ → Type 0
  Step k = cond (is_leaf_tag k) ((p : ℕ) (x : List ℕ) → M (class k) (leaf k p x)) ((p : ℕ) (rs : Roses) → Match (content k) rs → M (class k) (node k p rs))

  abbrev pub Means : Roses → Type 0
  Means rnil = Unit {0}
  Means (rcons r rs) = M (class (tag_of r)) r × Means rs

  -- a member of the class that is asked for
  is : (k c : ℕ) (r : Rose) → eqb k c ≡ true → M c r → M k r
  is k c r e m = subst (λ (j : ℕ). M j r) (sym (eqb→eq k c (subst (λ (y : Bool). T y) (sym e) tt))) m

  many-match : (k : ℕ) (g : Items) → ((rs : Roses) → fit g rs ≡ true → Means rs → Match g rs)
      → (rs : Roses) → fit (many k g) rs ≡ true → Means rs → Match (many k g) rs
  unfolding fit after ends
  many-match k g f rnil h m = (rnil, rnil, refl, tt, f rnil h m)
  many-match k g f (rcons r rs) h m = go (λ h. many-match k g f rs h m.1) (eqb k (class (tag_of r))) refl h
    where
      go : (fit (many k g) rs ≡ true → Match (many k g) rs) → (x : Bool) → eqb k (class (tag_of r)) ≡ x → fit (cond x (many k g) (after g (class (tag_of r)))) rs ≡ true → Match (many k g) (rcons r rs)
      go rec true e h =
          let w : Match (many k g) rs = rec h in
          (rcons r w.0, w.1, ap (rcons r) w.2, (is k (class (tag_of r)) r e m.0, w.3), w.4)
      go rec false e h = (rnil, rcons r rs, refl, tt, f (rcons r rs) h m)

  mix-match : (k : ℕ) (g : Items) → ((rs : Roses) → fit g rs ≡ true → Means rs → Match g rs) → (rs : Roses) → fit (mix k g) rs ≡ true → Means rs → Match (mix k g) rs
  unfolding fit after ends
  mix-match k g f rnil h m = (rnil, rnil, refl, tt, f rnil h m)
  mix-match k g f (rcons r rs) h m = go (λ h. mix-match k g f rs h m.1) (eqb k (class (tag_of r))) refl (eqb (class (tag_of r)) term) refl h
    where
      more : Match (mix k g) rs → M k r ⊎ M term r → Match (mix k g) (rcons r rs)
      more w x = (rcons r w.0, w.1, ap (rcons r) w.2, (x, w.3), w.4)

      go : (fit (mix k g) rs ≡ true → Match (mix k g) rs) → (x : Bool) → eqb k (class (tag_of r)) ≡ x → (y : Bool) → eqb (class (tag_of r)) term ≡ y
          → fit (cond x (mix k g) (cond y (mix k g) (after g (class (tag_of r))))) rs ≡ true → Match (mix k g) (rcons r rs)
      go rec true e y d h = more (rec h) (inl (is k (class (tag_of r)) r e m.0))
      go rec false e true d h = more (rec h) (inr (is term (class (tag_of r)) r (eqb-sym (class (tag_of r)) term d) m.0))
      go rec false e false d h = (rnil, rcons r rs, refl, tt, f (rcons r rs) h m)

  pub match : (g : Items) (rs : Roses) → fit g rs ≡ true → Means rs → Match g rs
  unfolding fit after ends
  match dead rs h m = not-both (fit dead rs) h (dead-fit rs)
  match end rnil h m = refl
  match end (rcons r rs) h m = not-both (fit dead rs) h (dead-fit rs)
  match (one k g) rnil h m = not-both false h refl
  match (one k g) (rcons r rs) h m = go (λ h. match g rs h m.1) (eqb k (class (tag_of r))) refl h
    where
      go : (fit g rs ≡ true → Match g rs) → (x : Bool) → eqb k (class (tag_of r)) ≡ x → fit (cond x g dead) rs ≡ true → Match (one k g) (rcons r rs)
      go rec true e h = (r, rs, refl, is k (class (tag_of r)) r e m.0, rec h)
      go rec false e h = not-both (fit dead rs) h (dead-fit rs)
  match (opt k g) rnil h m = inr (match g rnil h m)
  match (opt k g) (rcons r rs) h m = go (λ h. match g rs h m.1) (λ h. match g (rcons r rs) h m) (eqb k (class (tag_of r))) refl h
    where
      go : (fit g rs ≡ true → Match g rs) → (fit g (rcons r rs) ≡ true → Match g (rcons r rs)) → (x : Bool) → eqb k (class (tag_of r)) ≡ x → fit (cond x g (after g (class (tag_of r)))) rs ≡ true → Match (opt k g) (rcons r rs)
      go rec skip true e h = inl (r, rs, refl, is k (class (tag_of r)) r e m.0, rec h)
      go rec skip false e h = inr (skip h)
  match (many k g) rs h m = many-match k g (match g) rs h m
  match (mix k g) rs h m = mix-match k g (match g) rs h m

  leaf-step : (k p : ℕ) (x : List ℕ) (y : Bool) → is_leaf_tag k ≡ y → y ≡ true → Step k → M (class k) (leaf k p x)
  leaf-step k p x true e q s = (subst (λ (z : Bool). cond z ((p : ℕ) (x : List ℕ) → M (class k) (leaf k p x)) ((p : ℕ) (rs : Roses) → Match (content k) rs → M (class k) (node k p rs))) e s) p x
  leaf-step k p x false e q s = not-both false q refl

  node-step : (k p : ℕ) (rs : Roses) (y : Bool) → is_leaf_tag k ≡ y → y ≡ false → Step k → Match (content k) rs → M (class k) (node k p rs)
  node-step k p rs false e q s = (subst (λ (z : Bool). cond z ((p : ℕ) (x : List ℕ) → M (class k) (leaf k p x)) ((p : ℕ) (rs : Roses) → Match (content k) rs → M (class k) (node k p rs))) e s) p rs
  node-step k p rs true e q s = not-both true refl q

  module _ (s : (k : ℕ) → Step k) where
    mutual
      unfolding Obeys

      pub means : (r : Rose) → Obeys r → M (class (tag_of r)) r
      means (leaf k p x) o = leaf-step k p x (is_leaf_tag k) refl o (s k)
      means (node k p rs) o = node-step k p rs (is_leaf_tag k) refl o.0 (s k) (match (content k) rs o.1 (mean rs o.2))

      pub mean : (rs : Roses) → Obey rs → Means rs
      mean rnil o = tt
      mean (rcons r rs) o = (means r o.0, mean rs o.1)
