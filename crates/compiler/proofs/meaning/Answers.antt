use Rattle.compiler.specs.FormsD.Meanings.{seen-cut, meaning-is}
use Prim.Native.Nat.{◌*◌}
use lib.Seq.{length-take-le}
use mathlib.Core.Path.{refl, sym}
use Rattle.compiler.proofs.meaning.Goals as goal

pub slice_bounds-call-end : goal.slice_bounds-call-end
slice_bounds-call-end c =
    sym (length-take-le (4 * c.args.k) c.args.rows.now c.requires.0.1.within)

pub call-requires : goal.call-requires
call-requires c =
    let v = c.requires.0 in ((v.0, c.args.k, (seen-cut v.0 _ _ _ v.1).0), c.requires.1, c.requires.2, c.requires.3)

pub returns : goal.returns
returns c =
    let a = c.args in meaning-is a.tree.now a.rows.now _ a.k a.x.now a.at a.a _ refl c.call.ensures
