-- `text::goes_on` meets its contract: each byte is tested against the range beside it.
-- Assumes nothing.
use Rattle.std.proofs.Common.{rules, ◌∙◌, true, false}
use Rattle.std.proofs.lemmas.Iterator.{cases_from_all, YieldsList-from_zip, YieldsList-from_slice}
use Rattle.text.proofs.Sequences.{In, all-tested, too-few}
use Rattle.text.proofs.goes_on.Goals as goal

pub returns-in_err-bytes : goal.returns-in_err-bytes
returns-in_err-bytes g c = c.from_residual.ensures ∙ too-few _ _ _ c.told-later c.in_err-bytes.ensures.cases

pub returns : goal.returns
returns g c =
    let b = c.in_ok-bytes in
    all-tested _ _ _ _ _ _ c.told-later b.ensures.cases.enough b.ensures.cases.same
    (cases_from_all c.all.new.self _ _ (In true) (In false) c.all.ensures.ran
    (YieldsList-from_zip {s = c.zip.result} (YieldsList-from_slice b.bytes.now cc) (YieldsList-from_slice c.args.later.now cc))
    (λ x q k. search rules)
    (λ x q k. search rules))
    c.then_some.ensures
