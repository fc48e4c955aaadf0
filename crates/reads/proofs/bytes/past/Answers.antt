-- `past` meets its contract. Assumes nothing.
use mathlib.Core.Path.{sym, ◌∙◌}
use Rattle.reads.proofs.Tags.{tag-lt, past-on, past_off}
use Rattle.reads.proofs.bytes.past.Goals as goal

pub end_of-requires : goal.end_of-requires
end_of-requires c = let a = c.args in c.requires.1 (tag-lt a.b.now _ _ a.tag (sym c.is_tag.ensures ∙ c.if-is_tag.true))

pub returns-then-is_tag : goal.returns-then-is_tag
returns-then-is_tag c = let a = c.args in c.end_of.ensures ∙ past-on a.b.now _ _ a.tag (sym c.is_tag.ensures ∙ c.if-is_tag.true)

pub returns : goal.returns
returns c = let a = c.args in past_off a.b.now _ _ a.tag (sym c.is_tag.ensures ∙ c.if-is_tag.false)
