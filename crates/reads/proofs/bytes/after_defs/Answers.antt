-- `after_defs` meets its contract. Assumes nothing.
use Prim.Native.Nat.{ℕ}
use mathlib.Core.Path.{subst, sym}
use Rattle.reads.specs.Bytes.{TermAt}
use Rattle.reads.proofs.Rows.{defs-tagged}
use Rattle.reads.proofs.bytes.after_defs.Goals as goal

pub tagged-requires : goal.tagged-requires
tagged-requires c = let s = c.requires in (_, (defs-tagged _ s.0 s.1 _ s.2 s.3).0)

pub returns : goal.returns
returns c = λ ds t z h.
    let b = c.args.b.now in
    let d = defs-tagged b ds t c.args.q z h in
    subst (λ (p : ℕ). TermAt b t p) (sym (c.tagged.ensures _ d.0).1) d.1
