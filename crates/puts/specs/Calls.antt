-- The numbers of the kinds of calls. Assumes nothing.
use Rattle.std.specs.Prelude.{ℕ}
use Rattle.puts.specs.declared.calls.CallType.{CallType}
use Rattle.puts.specs.declared.calls.CallType.TheVariants.{Inline, Throw, CatchOne, CatchAll}

-- "Inline 0, Throw 1, CatchOne 2, CatchAll 3"
abbrev pub call_number : CallType → ℕ
call_number Inline = 0
call_number Throw = 1
call_number CatchOne = 2
call_number CatchAll = 3
