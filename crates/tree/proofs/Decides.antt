-- What a test that decides has said. Assumes nothing.
use mathlib.Core.Path.{◌≡◌, refl}
use mathlib.Core.Bool.{Bool, true, false}
use Rattle.tree.proofs.Match.{not-both}
use Rattle.tree.specs.Wf.{Decided}

pub said : (r : Bool) (P : Type 0) → Decided r P → r ≡ true → P
said true P d e = d
said false P d e = not-both false e refl

pub denied : (r : Bool) (P : Type 0) → Decided r P → r ≡ false → P → ⊥
denied true P d e = λ x. not-both true refl e
denied false P d e = d
