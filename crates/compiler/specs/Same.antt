-- What a method of the compiler keeps: what it writes is the same rows and the same room. Assumes nothing.
use Rattle.std.specs.Prelude.{◌≡◌}
use Rattle.compiler.specs.declared.Compiler.{Compiler}

pub record Same (c c' : Compiler) : Type 0 where
  pub rows : c'.rows.ghost_name ≡ c.rows.ghost_name
  pub out : c'.out.ghost_name ≡ c.out.ghost_name
