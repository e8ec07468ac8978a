-- The size is exact up to the limit, which is as far as it is looked at.
use Rattle.std.proofs.Common.{◌≡◌, ◌≤◌, ◌<◌, min, ℕ, Bool, refl, arith, Ok, Err, pos, neg_ℤ, ◌-ℤ◌, to_z, of_z}
use Rattle.std.proofs.lemmas.Bool.{le-leb, lt-leb}
use Rattle.std.proofs.lemmas.Int.{to_z-of_z, ints}
use Rattle.spice_num.specs.declared.refusals.NumRefusal.TheVariants.{OutOfUnit}
use Rattle.spice_num.specs.Number.{number_limit, in_range}
use Rattle.spice_num.specs.Parts.{signed}
use Rattle.spice_num.proofs.reading.number_from.Goals as goal
use mir.Syntax.{w128}

above : (negative : Bool) (size exact : ℕ) → min number_limit size ≡ min number_limit exact → number_limit ≤ size → Err OutOfUnit ≡ in_range negative exact
above negative size exact same large = rw (le-leb number_limit exact (omega arith)) refl

below : (negative : Bool) (size exact : ℕ) → min number_limit size ≡ min number_limit exact → size < number_limit → in_range negative exact ≡ Ok (signed negative size)
below negative size exact same small =
    let equal : exact ≡ size = omega arith in
    rw (equal, lt-leb number_limit size small) refl

pub returns-then-size-from-clause-value : goal.returns-then-size-from-clause-value
returns-then-size-from-clause-value c =
    let size = rw (to_z-of_z w128 c.args.power c.ranges.power) at c.rounded-size.ensures in
    above c.args.is_negative c.rounded-size.result _ size (omega arith)

pub returns-then-is_negative-clause-value : goal.returns-then-is_negative-clause-value
returns-then-is_negative-clause-value c =
    let size = rw (to_z-of_z w128 c.args.power c.ranges.power) at c.rounded-size.ensures in
    let value : to_z w128 (of_z w128 (pos 0 -ℤ to_z w128 c.rounded-size.result)) ≡ neg_ℤ (pos c.rounded-size.result) = omega (arith, ints) in
    rw (value, below c.args.is_negative c.rounded-size.result _ size (omega arith), c.if-is_negative.true) refl

pub returns-else-is_negative-clause-value : goal.returns-else-is_negative-clause-value
returns-else-is_negative-clause-value c =
    let size = rw (to_z-of_z w128 c.args.power c.ranges.power) at c.rounded-size.ensures in
    let value : to_z w128 c.rounded-size.result ≡ pos c.rounded-size.result = omega (arith, ints) in
    rw (value, below c.args.is_negative c.rounded-size.result _ size (omega arith), c.if-is_negative.false) refl
