use Rattle.compiler.specs.FormsA.Asks as asks
use Rattle.compiler.proofs.bare.Goals as goal

pub put_bare-requires : goal.put_bare-requires
put_bare-requires c =
    asks.bare-spot _ _ c.args.st.now c.requires.0 c.requires.1 c.alone.ensures.0

pub returns : goal.returns
returns c =
    asks.bare-is _ _ _ c.args.st.now _ _ _ c.alone.ensures c.put_bare.ensures
