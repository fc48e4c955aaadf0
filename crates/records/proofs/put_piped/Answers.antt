-- `records::put_piped` meets its contract: head, pattern and number stand one behind the other. Assumes nothing.
use native.Mathlib.Omega.{arith}
use Rattle.records.proofs.Pats.{pat-width}
use Rattle.records.proofs.Holding.{piped-put}
use Rattle.records.proofs.put_piped.Goals as goal

pub put_pattern-s-requires : goal.put_pattern-s-requires
put_pattern-s-requires c = let r = c.requires in record { x = r.x; at = r.at; rows = r.rows; room = omega (arith, r.wide, r.room) }

pub put_number-requires : goal.put_number-requires
put_number-requires c = let r = c.requires in omega (arith, (c.put_pattern-s.ensures r.x r.at).end, pat-width c.args.rows.now r.x c.args.k, r.wide, r.room)

pub returns : goal.returns
returns c = λ x h e. piped-put _ x _ _ _ _ _ _ _ _ _ _ _ e c.put_head.ensures (c.put_pattern-s.ensures x h) c.put_number.ensures
