-- `quoted_width` meets its contract. Assumes nothing.
use Rattle.reads.proofs.Owns.{str-fit, str-fits, str-parts, str-own, str-room}
use Rattle.reads.proofs.width.quoted_width.Goals as goal

pub end_of-z-requires : goal.end_of-z-requires
end_of-z-requires c = let a = c.args in let b = a.b.now in let s = c.requires in str-fit b _ s.1 s.0.0 s.0.1

pub past-requires : goal.past-requires
past-requires c = let a = c.args in let b = a.b.now in let s = c.requires in str-fits b _ _ s.1 c.end_of-z.ensures s.0.0 s.0.1

pub strings_width-requires : goal.strings_width-requires
strings_width-requires c = let a = c.args in let b = a.b.now in let s = c.requires in ((str-fits b _ _ s.1 c.end_of-z.ensures s.0.0 s.0.1).0, str-parts b _ _ s.1 c.end_of-z.ensures _ c.past.ensures s.0.0 s.0.1)

pub returns : goal.returns
returns c = let a = c.args in let b = a.b.now in let s = c.requires in (str-own b _ _ s.1 c.end_of-z.ensures _ _ c.past.ensures c.strings_width.ensures.0, str-room b _ _ _ _ c.end_of-z.ensures c.past.ensures c.strings_width.ensures.1)
