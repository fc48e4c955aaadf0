-- Well formed is that there is a tree. Assumes nothing.
use Rattle.std.specs.Prelude.{ℕ, suc, refl, List, length}
use Rattle.std.proofs.Common.{arith, subst}
use Rattle.tree.specs.Rose.{Roses, rnil, rcons, Row}
use Rattle.tree.specs.Grammar.{row_at}
use Rattle.tree.specs.Scan.{over}
use Rattle.tree.proofs.Scan.{Built, sound, complete}
use Rattle.tree.specs.Tree.{Tree}
use Rattle.tree.specs.Form.{At, f_tree}
use Rattle.tree.proofs.Typed.{typed}
use Rattle.tree.proofs.Obeyed.{obeys-tree}
use Rattle.tree.specs.Wf.{Wf}

pub tree_of : (b : List ℕ) → Wf b → (t : Tree) × At b t
unfolding At
tree_of b h =
    let w : Built b (row_at 0) 0 (length b) = sound b (suc (length b)) (row_at 0) 0 (length b) (omega arith) (omega arith) h.root h.all in
    let t = typed w.rows w.fits w.obey in
    (t.0, subst (λ (rs : Roses). Row b rs 0 (length b)) t.1 w.at)

pub wf_of : (b : List ℕ) (t : Tree) → At b t → Wf b
unfolding At
wf_of b t h =
    let o = obeys-tree t in
    let w = complete b (rcons (f_tree t) rnil) (row_at 0) 0 (length b) h o.0 o.1 (omega arith) (over refl) in
    record { root = w.0; all = w.1 }
