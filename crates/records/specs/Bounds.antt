-- A bound of a range that may be absent: as the code has it, and as the rules do. Assumes nothing.
use Rattle.std.specs.Prelude.{ℕ, Option, Some, None}
use Rattle.std.proofs.Math.Option as rule

abbrev pub bound_of : Option ℕ → rule.Option ℕ
bound_of (Some a) = rule.some a
bound_of None = rule.none
