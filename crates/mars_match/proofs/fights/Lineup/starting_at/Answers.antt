use Rattle.std.proofs.Common.{◌≡◌, ◌<◌, ◌∙◌, take, length, ap, arith}
use Rattle.std.proofs.lemmas.List.{length-take-le}
use Rattle.mars_match.specs.Battles.{rotated}
use Rattle.mars_match.specs.Code.Lineups.{GoesOn}
use Rattle.mars_match.proofs.Rotations.{rotated_part}
use Rattle.mars_match.proofs.fights.Lineup.starting_at.Goals as goal

pub returns : goal.returns
returns c =
    let first = c.args.first in
    let count = c.self.inside.count in
    let xs = c.self.inside.copies.items in
    let ok : GoesOn count xs = c.self.invariant in
    let many = length-take-le count xs (omega (arith, ok.many)) in
    let view : take count xs ≡ c.args.self.now = c.self.view_is in
    let inside : first < count = omega (arith, c.requires, many, ap length view) in
    rw (c.deref.ensures.value) (rotated_part count first xs ok inside ∙ ap (rotated first) view)
