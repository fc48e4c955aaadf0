use Prim.Native.Nat.{◌+◌, ◌-◌, ◌*◌}
use Rattle.reads.specs.Places.{Over}
use Rattle.compiler.specs.Same.{Same}
use Rattle.compiler.specs.FormsD.Args.{PassingTo}
use lib.ListN.{length}
use Rattle.compiler.specs.FormsA.Pairs.{Pairing}
use Rattle.compiler.specs.FormsB.Members as mems
use Prim.Native.Nat.{◌-◌}
use Rattle.compiler.specs.FormsC.Paths as forms_paths
use Rattle.compiler.specs.FormsD.Defs.{Scoping}
use Rattle.compiler.specs.FormsC.Objects as forms_objects
use Prim.Native.Nat.{◌+◌, ◌-◌}
use Rattle.compiler.specs.FormsC.Strings as forms_strings
use Rattle.compiler.proofs.Compiler.+compiling.Given as goal

abbrev pub decreases-args : goal.decreases-args
decreases-args l = 16 * (length l.tree.now - l.q) + 5

abbrev pub decreases-arr : goal.decreases-arr
decreases-arr l = 16 * (length l.tree.now - l.p) + 0

abbrev pub decreases-binary : goal.decreases-binary
decreases-binary l = 16 * (length l.tree.now - l.p) + 1

abbrev pub decreases-binop : goal.decreases-binop
decreases-binop l = 16 * (length l.tree.now - l.p) + 0

abbrev pub decreases-bound : goal.decreases-bound
decreases-bound l = 16 * (length l.tree.now - l.q) + 0

abbrev pub decreases-call : goal.decreases-call
decreases-call l = 16 * (length l.tree.now - l.p) + 0

abbrev pub decreases-def : goal.decreases-def
decreases-def l = 16 * (length l.tree.now - l.p) + 0

abbrev pub decreases-defs : goal.decreases-defs
decreases-defs l = 16 * (length l.tree.now - l.q) + 1

abbrev pub decreases-entries : goal.decreases-entries
decreases-entries l = 16 * (length l.tree.now - l.q) + 1

abbrev pub decreases-fold : goal.decreases-fold
decreases-fold l = 16 * (length l.tree.now - l.p) + 2

abbrev pub decreases-ite : goal.decreases-ite
decreases-ite l = 16 * (length l.tree.now - l.p) + 0

abbrev pub decreases-items : goal.decreases-items
decreases-items l = 16 * (length l.tree.now - l.q) + 0

abbrev pub decreases-iterm : goal.decreases-iterm
decreases-iterm l = 16 * (length l.tree.now - l.p) + 4

abbrev pub decreases-keyed : goal.decreases-keyed
decreases-keyed l = 16 * (length l.tree.now - l.q) + 0

abbrev pub decreases-label : goal.decreases-label
decreases-label l = 16 * (length l.tree.now - l.p) + 0

abbrev pub decreases-neg : goal.decreases-neg
decreases-neg l = 16 * (length l.tree.now - l.p) + 0

abbrev pub decreases-obj : goal.decreases-obj
decreases-obj l = 16 * (length l.tree.now - l.p) + 0

abbrev pub decreases-obj_entry : goal.decreases-obj_entry
decreases-obj_entry l = 16 * (length l.tree.now - l.q) + 0

abbrev pub decreases-open_def : goal.decreases-open_def
decreases-open_def l = 16 * (length l.tree.now - l.q) + 0

abbrev pub decreases-or_empty : goal.decreases-or_empty
decreases-or_empty l = 16 * (length l.tree.now - l.q) + 5

abbrev pub decreases-other : goal.decreases-other
decreases-other l = 16 * (length l.tree.now - l.q) + 5

abbrev pub decreases-own_key : goal.decreases-own_key
decreases-own_key l = 16 * (length l.tree.now - l.p) + 5

abbrev pub decreases-own_var : goal.decreases-own_var
decreases-own_var l = 16 * (length l.tree.now - l.p) + 5

abbrev pub decreases-pairs : goal.decreases-pairs
decreases-pairs l = 16 * (length l.tree.now - l.q) + 0

abbrev pub decreases-part : goal.decreases-part
decreases-part l = 16 * (length l.tree.now - l.q) + 0

abbrev pub decreases-parts : goal.decreases-parts
decreases-parts l = 16 * (length l.tree.now - l.q) + 1

abbrev pub decreases-path : goal.decreases-path
decreases-path l = 16 * (length l.tree.now - l.p) + 0

abbrev pub decreases-pattern : goal.decreases-pattern
decreases-pattern l = 16 * (length l.tree.now - l.q) + 1

abbrev pub decreases-pipe : goal.decreases-pipe
decreases-pipe l = 16 * (length l.tree.now - l.p) + 0

abbrev pub decreases-piped : goal.decreases-piped
decreases-piped l = 16 * (length l.tree.now - l.p) + 0

abbrev pub decreases-project : goal.decreases-project
decreases-project l = 16 * (length l.tree.now - l.p) + 0

abbrev pub decreases-quoted : goal.decreases-quoted
decreases-quoted l = 16 * (length l.tree.now - l.p) + 0

abbrev pub decreases-string : goal.decreases-string
decreases-string l = 16 * (length l.tree.now - l.q) + 5

abbrev pub decreases-strings : goal.decreases-strings
decreases-strings l = 16 * (length l.tree.now - l.q) + 6

abbrev pub decreases-term : goal.decreases-term
decreases-term l = 16 * (length l.tree.now - l.p) + 3

abbrev pub decreases-trial : goal.decreases-trial
decreases-trial l = 16 * (length l.tree.now - l.p) + 0

abbrev pub decreases-under : goal.decreases-under
decreases-under l = 16 * (length l.tree.now - l.q) + 0

abbrev pub decreases-update : goal.decreases-update
decreases-update l = 16 * (length l.tree.now - l.p) + 1

abbrev pub invariant-args-loop-p : goal.invariant-args-loop-p
invariant-args-loop-p l = (goal.iterator-args-loop-p).can_next l.p-iterator × Over l.tree l.z l.p-iterator × Same l.initial.self l.self × PassingTo l.tree l.q l.z l.initial.self.rows.now l.k l.initial.self.st l.initial.self.out.now l.p-iterator.at l.i l.self.rows.now l.self.st l.self.out.now

abbrev pub invariant-defs-loop-p : goal.invariant-defs-loop-p
invariant-defs-loop-p l = Same l.initial.self l.self × Scoping l.tree l.q l.initial.self.rows.now l.k l.initial.self.st l.initial.self.out.now l.allowed l.p l.i l.self.rows.now l.self.st l.self.out.now

abbrev pub decreases-defs-loop-p : goal.decreases-defs-loop-p
decreases-defs-loop-p l = length l.tree - l.p

abbrev pub invariant-entries-loop-p : goal.invariant-entries-loop-p
invariant-entries-loop-p l = (goal.iterator-entries-loop-p).can_next l.p-iterator × Over l.tree l.z l.p-iterator × Same l.initial.self l.self × forms_objects.Entering l.tree l.q l.z l.initial.self.rows.now l.k l.initial.self.st l.initial.self.out.now l.p-iterator.at l.i l.self.rows.now l.self.st l.self.out.now

abbrev pub invariant-items-loop-p : goal.invariant-items-loop-p
invariant-items-loop-p l = (goal.iterator-items-loop-p).can_next l.p-iterator × Over l.tree l.z l.p-iterator × Same l.initial.self l.self × mems.ItemsGo l.tree l.q l.initial.self.rows.now l.k l.initial.self.st l.initial.self.out.now l.p-iterator.at l.i l.j l.self.rows.now l.self.st l.self.out.now

abbrev pub invariant-keyed-loop-p : goal.invariant-keyed-loop-p
invariant-keyed-loop-p l = (goal.iterator-keyed-loop-p).can_next l.p-iterator × Over l.tree l.z l.p-iterator × Same l.initial.self l.self × mems.KeyedGo l.tree l.q l.initial.self.rows.now l.k l.initial.self.st l.initial.self.out.now l.p-iterator.at l.j l.self.rows.now l.self.st l.self.out.now

abbrev pub invariant-pairs-loop-a : goal.invariant-pairs-loop-a
invariant-pairs-loop-a l = Same l.initial.self l.self × Pairing l.tree l.q l.z l.initial.self.rows.now l.k l.initial.self.st l.initial.self.out.now l.allowed l.p l.i l.t l.self.rows.now l.self.st l.self.out.now

abbrev pub decreases-pairs-loop-a : goal.decreases-pairs-loop-a
decreases-pairs-loop-a l = length l.tree - l.p

abbrev pub invariant-parts-loop-p : goal.invariant-parts-loop-p
invariant-parts-loop-p l = (goal.iterator-parts-loop-p).can_next l.p-iterator × Over l.tree l.z l.p-iterator × Same l.initial.self l.self × forms_paths.Parting l.tree l.q l.z l.initial.self.rows.now l.k l.initial.self.st l.initial.self.out.now l.p-iterator.at l.i l.self.rows.now l.self.st l.self.out.now

abbrev pub invariant-strings-loop-p : goal.invariant-strings-loop-p
invariant-strings-loop-p l = (goal.iterator-strings-loop-p).can_next l.p-iterator × Over l.tree l.z l.p-iterator × Same l.initial.self l.self × forms_strings.Stringing l.tree l.q l.z l.initial.self.rows.now l.k l.initial.self.st l.initial.self.out.now l.p-iterator.at l.i l.self.rows.now l.self.st l.self.out.now
