use Rattle.compiler.specs.FormsD.Calls.{width_few, supplied-ready, supplied-fail, supplied-ers, supplied-put, supplied-few}
use Rattle.finds.specs.Numbers.{numbers}
use native.Mathlib.Omega.{arith}
use Rattle.compiler.proofs.supplied.Goals as goal

pub insert-o-requires : goal.insert-o-requires
insert-o-requires c =
    (omega (arith, c.requires.4), omega (arith, c.requires.5, c.call_width.ensures, width_few (numbers c.call-f.result).kind 0))

pub put_call-requires : goal.put_call-requires
put_call-requires c =
    let e = c.insert-o.ensures.0 in supplied-ready _ _ _ _ _ _ c.requires.0 c.call-f.ensures (omega (arith, c.requires.5, e))

pub fail-requires : goal.fail-requires
fail-requires c =
    (supplied-fail _ _ c.requires.0, omega (arith, c.requires.6, supplied-ers c.call_width.result c.args.st.now _ c.insert-o.ensures.1))

pub returns : goal.returns
returns c =
    let w = supplied-few c.args.rows.now c.call_width.result (numbers c.call-f.result) c.args.st.now _ _ _ _ c.call_width.ensures c.insert-o.ensures.1 c.fail.ensures in
    (supplied-put _ _ _ _ _ _ _ _ c.args.st.now _ _ _ _ _ c.call-f.ensures c.call_width.ensures c.insert-o.ensures.0 c.insert-o.ensures.1 c.put_call.ensures c.fail.ensures, w.0, w.1, w.2)
