-- A fact of each member of a list. Assumes nothing.
use Rattle.std.specs.Prelude.{◌⊎◌, Bool, true, false, cond, ◌≡◌, refl, ℕ, zero, suc, List, [], ◌∷◌, ◌++◌}
use Rattle.std.proofs.Common.{inl, inr, subst}
use Rattle.std.proofs.Math.Option.{some, none-ne-some, some-injective}
use Rattle.std.proofs.Math.ListN.{get_elem?}

abbrev pub Every : {A : Type 0} → (A → Type 0) → List A → Type 0
Every P [] = Unit {0}
Every P (a ∷ as') = P a × Every P as'

pub every_append : {A : Type 0} (P : A → Type 0) (xs ys : List A) → Every P xs → Every P ys → Every P (xs ++ ys)
every_append P [] ys f g = g
every_append P (x ∷ xs) ys f g = (f.0, every_append P xs ys f.1 g)

-- a fact of what a test picks
pub either : {A : Type 0} (P : A → Type 0) (b : Bool) (x y : A) → (b ≡ true → P x) → P y → P (cond b x y)
either P true x y f g = f refl
either P false x y f g = g

pub every-at : {A : Type 0} (P : A → Type 0) (xs : List A) (k : ℕ) (x : A) → Every P xs → get_elem? xs k ≡ some x → P x
every-at P [] k x h e = absurd (none-ne-some x e)
every-at P (y ∷ ys) zero x h e = subst P (some-injective y x e) h.0
every-at P (y ∷ ys) (suc k) x h e = every-at P ys k x h.1 e

pub every_map : {A : Type 0} (P Q : A → Type 0) (xs : List A) → ((x : A) → P x → Q x) → Every P xs → Every Q xs
every_map P Q [] f h = tt
every_map P Q (x ∷ xs) f h = (f x h.0, every_map P Q xs f h.1)

pub every-left : {A : Type 0} (P : A → Type 0) (xs ys : List A) → Every P (xs ++ ys) → Every P xs
every-left P [] ys h = tt
every-left P (x ∷ xs) ys h = (h.0, every-left P xs ys h.1)

pub every-right : {A : Type 0} (P : A → Type 0) (xs ys : List A) → Every P (xs ++ ys) → Every P ys
every-right P [] ys h = h
every-right P (x ∷ xs) ys h = every-right P xs ys h.1

-- x is a member of the list
abbrev pub Member : {A : Type 0} → A → List A → Type 0
Member x [] = ⊥
Member x (y ∷ ys) = (x ≡ y) ⊎ Member x ys

pub members : {A : Type 0} (xs : List A) → Every (λ x. Member x xs) xs
members [] = tt
members (x ∷ xs) = (inl refl, every_map (λ y. Member y xs) (λ y. Member y (x ∷ xs)) xs (λ y h. inr h) (members xs))
