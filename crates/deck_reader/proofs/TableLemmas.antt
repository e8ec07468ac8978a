-- The thresholds of a table.
use Rattle.std.proofs.Common.{◌≡◌, ℕ, ℤ, ◌+◌, ◌*◌, ◌^◌, ◌<◌, ◌≤◌, ◌==◌, List, [], ◌∷◌, length, Bool, true, false, not, ◌&&◌, ◌||◌, if◌then◌else◌, Some, None, refl, arith}
use Rattle.std.specs.Prelude.{nat_lt, nat_le}
use Rattle.std.specs.List.{list_all}
use Rattle.std.proofs.Math.Nat.{mul-le-mul_left}
use Rattle.std.proofs.lemmas.Bool.{and_parts, and_from, le-leb, leb-true, ltb-false, eqb-true}
use Rattle.semantics.specs.Part.{Listed}
use Rattle.semantics.specs.Valid.{rising, small_volts, small_amps, is_grid, is_part}
use Rattle.device_tables.specs.Table.{is_small_grid}
use Rattle.deck_cards.specs.declared.which.Which.TheVariants.{Volts, Amps}
use Rattle.deck_reader.specs.declared.why.DeckWhy.TheVariants.{TooManyThresholds, NotRising, WrongCount}
use Rattle.deck_cards.specs.Causes.{first_of, outside, part_limit}
use Rattle.deck_reader.specs.Tables.{table_fault}

-- fewer than two thresholds rise
pub rising-few : (xs : List ℤ) → length xs < 2 → true ≡ rising xs
rising-few [] few = refl
rising-few (a ∷ []) few = refl
rising-few (a ∷ b ∷ xs) few = absurd (omega arith)

-- what a table has that no card's rule refuses and that is in its limits
pub record IsFine (gate drain amps : List ℤ) : Type 0 where
  pub gates : is_grid gate ≡ true
  pub drains : is_grid drain ≡ true
  pub few : length amps < 2 ^ 32
  pub whole : is_part (Listed gate drain amps) ≡ true

unfaulted : (a b r s c : Bool) → (if a || b then Some TooManyThresholds else if not r || not s then Some NotRising else if not c then Some WrongCount else None) ≡ None
    → (a ≡ false) × (b ≡ false) × (r ≡ true) × (s ≡ true) × (c ≡ true)
unfaulted true b r s c is = absurd (cc)
unfaulted false true r s c is = absurd (cc)
unfaulted false false false s c is = absurd (cc)
unfaulted false false true false c is = absurd (cc)
unfaulted false false true true false is = absurd (cc)
unfaulted false false true true true is = (refl, refl, refl, refl, refl)

unlimited : (g d a : Bool) → first_of (outside (g && d) Volts ∷ outside a Amps ∷ []) ≡ None → (g ≡ true) × (d ≡ true) × (a ≡ true)
unlimited false d a is = absurd (cc)
unlimited true false a is = absurd (cc)
unlimited true true false is = absurd (cc)
unlimited true true true is = (refl, refl, refl)

grid_from : (thresholds : List ℤ) → nat_lt 256 (length thresholds) ≡ false → rising thresholds ≡ true → list_all small_volts thresholds ≡ true → is_grid thresholds ≡ true
grid_from thresholds few rise small =
    and_from _ _ (le-leb (length thresholds) 256 (ltb-false 256 (length thresholds) few)) (and_from _ _ small rise)

products : (a g d : ℕ) → a ≡ (g + 1) * (d + 1) → g ≤ 256 → d ≤ 256 → a < 2 ^ 32
products a g d is gates drains =
    let rows : (g + 1) * (d + 1) ≤ (g + 1) * 257 = mul-le-mul_left (g + 1) (omega arith) in
    omega (arith, rows, is)

pub is_fine : (gate drain amps : List ℤ) → table_fault gate drain amps ≡ None → part_limit (Listed gate drain amps) ≡ None → IsFine gate drain amps
unfolding table_fault part_limit
is_fine gate drain amps fault limit =
    let f = unfaulted (nat_lt 256 (length gate)) (nat_lt 256 (length drain)) (rising gate) (rising drain) (length amps == (length gate + 1) * (length drain + 1)) fault in
    let l = unlimited (list_all small_volts gate) (list_all small_volts drain) (list_all small_amps amps) limit in
    let gates = grid_from gate f.0 f.2 l.0 in
    let drains = grid_from drain f.1 f.3 l.1 in
    record {
      gates = gates;
      drains = drains;
      few = products (length amps) (length gate) (length drain) (eqb-true _ _ f.4) (ltb-false 256 (length gate) f.0) (ltb-false 256 (length drain) f.1);
      whole = and_from _ _ gates (and_from _ _ drains (and_from _ _ f.4 l.2));
    }

-- a grid has few thresholds, each of them small
pub is_few : (thresholds : List ℤ) → is_grid thresholds ≡ true → length thresholds < 2 ^ 32
is_few thresholds is =
    let parts = and_parts (nat_le (length thresholds) 256) (list_all small_volts thresholds && rising thresholds) is in
    let few = leb-true (length thresholds) 256 parts.0 in
    omega (arith, few)

pub is_small : (thresholds : List ℤ) → is_grid thresholds ≡ true → is_small_grid thresholds ≡ true
is_small thresholds is =
    let parts = and_parts (nat_le (length thresholds) 256) (list_all small_volts thresholds && rising thresholds) is in
    let small = and_parts (list_all small_volts thresholds) (rising thresholds) parts.1 in
    and_from (nat_le (length thresholds) 256) (list_all small_volts thresholds) parts.0 small.0
