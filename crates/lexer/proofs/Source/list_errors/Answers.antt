-- `Source::list_errors` meets its contract: the room is too short, or the whole listing goes in. Assumes nothing.
use native.Mathlib.Omega.{arith}
use Rattle.lexer.proofs.Entries.{told-short, told, never, errors-hold}
use Rattle.lexer.proofs.Source.list_errors.Goals as goal

pub returns-then-size-out : goal.returns-then-size-out
returns-then-size-out c =
    let p = c.requires in
    told-short _ _ _ _ _ p.0 p.1 (omega arith)

pub returns-in_err-whole : goal.returns-in_err-whole
returns-in_err-whole c = absurd (never _ _ _ _ _ _ _ _ c.requires.0 c.in_err-whole.ensures)

pub returns : goal.returns
returns c =
    let p = c.requires in
    told _ _ _ _ _ p.0 p.1 _ (omega arith) p.2 (errors-hold _ _ _ _ _ _ c.in_ok-whole.ensures).room
