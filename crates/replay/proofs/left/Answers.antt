-- `replay::left` meets its contract: the room begins with the listing, and the pattern is behind it. Assumes nothing.
use Rattle.std.proofs.Common.{refl, arith, sym, subst, ◌∙◌, length}
use Rattle.std.specs.Cmp.Lexicographic.{same_text, other_text}
use Rattle.replay.specs.Lent.{Untouched}
use Rattle.replay.proofs.Rooms.{short, untold, rest, both-left, left-listing, left-behind}
use Rattle.replay.proofs.left.Goals as goal

pub returns-then-room-n : goal.returns-then-room-n
returns-then-room-n c = short _ _ c.if-room-n.true

pub returns-then-eq : goal.returns-then-eq
returns-then-eq c =
    let room = c.args.room.now in
    let listing = c.args.listing.now in
    let n = length listing in
    let h = rest room listing n refl (omega (arith, c.if-room-n.false)) in (
      λ t. both-left room listing n refl (omega (arith, c.if-room-n.false)) (same_text _ _ (sym c.if-eq.true ∙ c.eq.ensures)) (subst (λ x. Untouched x n) h (c.untouched.ensures.0 t)),
      λ l. c.untouched.ensures.1 (subst (λ x. Untouched x n) (sym h) (left-behind room listing n refl (omega (arith, c.if-room-n.false)) l)),
    )

pub returns : goal.returns
returns c = untold (λ l. other_text _ _ (sym c.if-eq.false ∙ c.eq.ensures) (left-listing c.args.room.now c.args.listing.now _ refl (omega (arith, c.if-room-n.false)) l))
