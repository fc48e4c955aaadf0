-- An answer in one word, for callers in other languages: the number in the low byte, the length in the next four, the place above.
use Rattle.std.specs.Prelude.{◌≡◌, List, ℕ, ◌+◌, ◌*◌, ◌^◌, length}
use Rattle.fields.specs.declared.Answer.{Answer}
use Rattle.fields.specs.Outcome.{Outcome, answer, content}

unfoldable pub packed : Answer → ℕ
packed a = a.number + a.length * 2 ^ 8 + a.place * 2 ^ 40

-- an exported entry's promise: the outcome's answer, packed, and the outcome's content
pub record Packs (o : Outcome) (d d' : List ℕ) (r : ℕ) : Type 0 where
  pub packs : r ≡ packed (answer o (length d))
  pub leaves : d' ≡ content o d
