-- What the limits of a valid deck give: bounds of every voltage, current and slope of its run.
use Rattle.std.proofs.Common.{◌≡◌, ℕ, suc, zero, ◌+◌, ◌-◌, ◌*◌, ◌^◌, ◌%◌, ◌<◌, ◌≤◌, Bool, true, false, not, ◌||◌, ◌&&◌, cond, List, [], ◌∷◌, length, get_or, Option, Some, None, refl, arith, inl, inr, ⊎_elim, subst, leb, ℤ, pos, negsuc, ◌+ℤ◌, ◌-ℤ◌, ◌*ℤ◌}
use Rattle.std.specs.Prelude.{◌⊎◌, unsigned_abs, int_div, neg_ℤ, ◌==◌, nat_le, nat_lt, int_lt, int_le}
use Rattle.std.specs.Option.{is_none, is_some, unwrap_or}
use Rattle.std.specs.List.{fold, list_all, filter}
use Rattle.std.specs.Str.{bytes_eq}
use Rattle.std.proofs.lemmas.Bool.{false≢true, cond-true, and_parts, cond_both, leb-true, ltb-true, ltb-false, eqb-true}
use Rattle.std.proofs.lemmas.Int.{ints, clamps, unsigned_abs-mul}
use Rattle.std.proofs.Math.Nat.{mul-le-mul_right}
use Rattle.std.proofs.lemmas.Nat.{mul-le}
use Rattle.semantics.proofs.Nodes.{AreNodes-nodes}
use Rattle.semantics.specs.Wave.{rate}
use Rattle.semantics.specs.Ground.{is_ground}
use Rattle.semantics.specs.declared.fraction.Fraction.{Fraction}
use Rattle.semantics.specs.declared.element.Element.{Element}
use Rattle.semantics.specs.declared.element.Element.TheVariants.{Resistor, Capacitor, Source, Mos}
use Rattle.semantics.specs.Deck.{DeckValue, nodes, free_nodes, driver, drives, first_some, total_farads, capacity, terminals, terminals_at, initial_of, look_up, given}
use Rattle.semantics.specs.declared.channel.Channel.{Channel}
use Rattle.semantics.specs.declared.channel.Channel.TheVariants.{N, P}
use Rattle.semantics.specs.Part.{Part, Level, Listed, middle, square_law, capped, n_current, forward, channel_current, part_current}
use Rattle.semantics.specs.Source.{pair_at, pair_from, signed, slope_at, slope_from, between, level}
use Rattle.semantics.specs.Device.{cells, current, current_in, resistor_current}
use Rattle.semantics.specs.Run.{into, flow, node_current, charge, voltages, run}
use Rattle.semantics.specs.Points.{rising_times}
use Rattle.semantics.specs.Valid.{is_valid, has_limits, has_elements, has_nodes, in_limits, is_source, is_part, is_grid, is_held, short_time, small_volts, has_part}

-- what a valid deck has, part by part
pub record Limits (d : DeckValue) : Type 0 where
  pub stop : d.stop ≤ 10 ^ 10
  pub grain_even : d.grain % 2 ≡ 0
  pub grain_low : 2 ≤ d.grain
  pub grain_high : d.grain ≤ 10 ^ 6
  pub parts : list_all (λ p. is_part p.1) d.parts ≡ true
  pub initial : list_all (λ p. small_volts p.1) d.initial ≡ true
  pub has_part : list_all (has_part d) d.elements ≡ true
  pub values : list_all in_limits d.elements ≡ true
  pub few_elements : length d.elements ≤ 100000
  pub few_nodes : length (nodes d) ≤ 100000
  pub held : list_all (is_held d) (free_nodes d) ≡ true

pub limits : (d : DeckValue) → is_valid d ≡ true → Limits d
unfolding is_valid
limits d valid =
    let whole : (has_limits d ≡ true) × ((has_elements d && has_nodes d) ≡ true) = and_parts _ _ valid in
    let rest : (has_elements d ≡ true) × (has_nodes d ≡ true) = and_parts _ _ whole.1 in
    let ranges = and_parts _ _ whole.0 in
    let two = and_parts _ _ ranges.0 in
    let grain = and_parts _ _ two.1 in
    let grains = and_parts _ _ grain.1 in
    let lists = and_parts _ _ ranges.1 in
    let elements = and_parts _ _ rest.0 in
    let more = and_parts _ _ elements.1 in
    let values = and_parts _ _ more.1 in
    let counts = and_parts _ _ rest.1 in
    let few = and_parts _ _ counts.0 in
    record {
      stop = leb-true _ _ two.0;
      grain_even = eqb-true _ _ grain.0;
      grain_low = leb-true _ _ grains.0;
      grain_high = leb-true _ _ grains.1;
      parts = (and_parts _ _ lists.0).1;
      initial = (and_parts _ _ lists.1).1;
      has_part = values.0;
      values = values.1;
      few_elements = leb-true _ _ few.0;
      few_nodes = leb-true _ _ few.1;
      held = counts.1;
    }

-- ---- the source of a driven node

pub first_cases : {A B : Type 0} (f : A → Option B) (x : A) (xs : List A) (y : B) → first_some f (x ∷ xs) ≡ Some y → (f x ≡ Some y) ⊎ (first_some f xs ≡ Some y)
first_cases {A} {B} f x xs y = by (f x)
  where
    by : (o : Option B) → elim o as (λ _. Option B) [ None ↦ first_some f xs | Some z ↦ Some z ] ≡ Some y → (o ≡ Some y) ⊎ (first_some f xs ≡ Some y)
    by None h = inr h
    by (Some z) h = inl h

-- the first that is found has what all have
pub first_has : {A B : Type 0} (f : A → Option B) (good : A → Bool) (Q : B → Type 0) → ((x : A) (y : B) → good x ≡ true → f x ≡ Some y → Q y) → (xs : List A) (y : B) → list_all good xs ≡ true → first_some f xs ≡ Some y → Q y
first_has f good Q each [] y all found = absurd (cc)
first_has f good Q each (x ∷ xs) y all found =
    let parts = and_parts (good x) (list_all good xs) all in
    ⊎_elim (λ (here : f x ≡ Some y). each x y parts.0 here) (λ (later : first_some f xs ≡ Some y). first_has f good Q each xs y parts.1 later) (first_cases f x xs y found)

drives_source : (n : List ℕ) (e : Element) (s : List (ℕ × ℤ) × Bool) → in_limits e ≡ true → drives n e ≡ Some s → is_source s.0 ≡ true
drives_source n (Resistor name first second ohms) s good found = absurd (cc)
drives_source n (Capacitor name plus minus farads) s good found = absurd (cc)
drives_source n (Mos name drain gate source bulk part len width) s good found = absurd (cc)
drives_source n (Source name plus minus wave) s good found = by (bytes_eq n plus) (bytes_eq n minus) found
  where
    by : (b c : Bool) → cond {A = Option (List (ℕ × ℤ) × Bool)} b (Some (wave, false)) (cond c (Some (wave, true)) None) ≡ Some s → is_source s.0 ≡ true
    by true c h = let pair : List (ℕ × ℤ) × Bool = (wave, false) in let e : pair ≡ s = cc in subst (λ (q : List (ℕ × ℤ) × Bool). is_source q.0 ≡ true) e good
    by false true h = let pair : List (ℕ × ℤ) × Bool = (wave, true) in let e : pair ≡ s = cc in subst (λ (q : List (ℕ × ℤ) × Bool). is_source q.0 ≡ true) e good
    by false false h = absurd (cc)

pub driver_source : (d : DeckValue) (n : List ℕ) (s : List (ℕ × ℤ) × Bool) → Limits d → driver d n ≡ Some s → is_source s.0 ≡ true
unfolding driver
driver_source d n s l found = first_has (drives n) in_limits (λ y. is_source y.0 ≡ true) (λ e y. drives_source n e y) d.elements s l.values found

-- ---- the size of what flows

pub capped_small : (z : ℤ) → unsigned_abs (capped z) ≤ 10 ^ 12
capped_small z = omega (arith, ints, clamps)

pub neg_small : (z : ℤ) (n : ℕ) → unsigned_abs z ≤ n → unsigned_abs (neg_ℤ z) ≤ n
neg_small z n h = omega (arith, ints)

pub forward_small : (vto kp width len vgs vds : ℤ) → unsigned_abs (forward vto kp width len vgs vds) ≤ 10 ^ 12
forward_small vto kp width len vgs vds = capped_small (int_div ((kp *ℤ width) *ℤ square_law (vgs -ℤ vto) vds) (len *ℤ pos (2 * 10 ^ 12)))

pub n_small : (vto kp width len vgs vds : ℤ) → unsigned_abs (n_current vto kp width len vgs vds) ≤ 10 ^ 12
n_small vto kp width len vgs vds =
    let turned : ℤ = forward vto kp width len (vgs -ℤ vds) (neg_ℤ vds) in
    cond_both (int_le (pos 0) vds) (forward vto kp width len vgs vds) (neg_ℤ turned) (λ z. unsigned_abs z ≤ 10 ^ 12)
    (λ _. forward_small vto kp width len vgs vds) (λ _. neg_small turned (10 ^ 12) (forward_small vto kp width len (vgs -ℤ vds) (neg_ℤ vds)))

pub channel_small : (channel : Channel) (vto kp width len vgs vds : ℤ) → unsigned_abs (channel_current channel vto kp width len vgs vds) ≤ 10 ^ 12
channel_small N vto kp width len vgs vds = n_small vto kp width len vgs vds
channel_small P vto kp width len vgs vds =
    neg_small (n_current (neg_ℤ vto) kp width len (neg_ℤ vgs) (neg_ℤ vds)) (10 ^ 12) (n_small (neg_ℤ vto) kp width len (neg_ℤ vgs) (neg_ℤ vds))

pub listed_small : (amps : List ℤ) (i : ℕ) → list_all (λ z. leb (unsigned_abs z) (10 ^ 12)) amps ≡ true → unsigned_abs (get_or amps i (pos 0)) ≤ 10 ^ 12
listed_small [] i all = omega arith
listed_small (z ∷ zs) zero all = leb-true _ _ (and_parts _ _ all).0
listed_small (z ∷ zs) (suc i) all = listed_small zs i (and_parts _ _ all).1

pub part_small : (grain : ℕ) (p : Part) (width len : ℤ) (g d : ℕ) → is_part p ≡ true → unsigned_abs (part_current grain p width len g d) ≤ 10 ^ 12
unfolding part_current
part_small grain (Level channel vto kp) width len g d good = channel_small channel vto kp width len (middle grain g) (middle grain d)
part_small grain (Listed gate drain amps) width len g d good =
    let counted : Bool = length amps == (length gate + 1) * (length drain + 1) in
    let each : Bool = list_all (λ z. nat_le (unsigned_abs z) (10 ^ 12)) amps in
    let grids : ((is_grid drain && (counted && each)) ≡ true) = (and_parts (is_grid gate) (is_grid drain && (counted && each)) good).1 in
    let counts : ((counted && each) ≡ true) = (and_parts (is_grid drain) (counted && each) grids).1 in
    listed_small amps (g * (length drain + 1) + d) (and_parts counted each counts).1

pub resistor_small : (grain : ℕ) (ohms : ℤ) (c : ℕ) → unsigned_abs (resistor_current grain ohms c) ≤ 10 ^ 12
unfolding resistor_current
resistor_small grain ohms c = capped_small (int_div ((pos c -ℤ pos 4096) *ℤ pos (grain * 10 ^ 9)) ohms)

-- into a node there flows at most an ampere for each end at it
pub into_small : (n first second : List ℕ) (amps : ℤ) → unsigned_abs amps ≤ 10 ^ 12 → unsigned_abs (into n first second amps) ≤ 10 ^ 12 * ((cond (bytes_eq n first) 1 0) + (cond (bytes_eq n second) 1 0))
into_small n first second amps small = by (bytes_eq n first) (bytes_eq n second)
  where
    by : (b c : Bool) → unsigned_abs ((cond c amps (pos 0)) -ℤ (cond b amps (pos 0))) ≤ 10 ^ 12 * ((cond b 1 0) + (cond c 1 0))
    by true true = omega (arith, ints)
    by true false = omega (arith, ints)
    by false true = omega (arith, ints)
    by false false = omega (arith, ints)

-- ---- the current into a node

given_has : {A : Type 0} (good : A → Bool) (p : List ℕ) (x : List ℕ × A) (r : A) → good x.1 ≡ true → given p x ≡ Some r → good r ≡ true
given_has {A} good p x r holds found = by (bytes_eq p x.0) found
  where
    by : (b : Bool) → cond {A = Option A} b (Some x.1) None ≡ Some r → good r ≡ true
    by true h = let e : x.1 ≡ r = cc in subst (λ (y : A). good y ≡ true) e holds
    by false h = absurd (cc)

-- what is looked up has what every value of the list has
pub look_up_has : {A : Type 0} (good : A → Bool) (p : List ℕ) (pairs : List (List ℕ × A)) (q : A) → list_all (λ y. good y.1) pairs ≡ true → look_up p pairs ≡ Some q → good q ≡ true
look_up_has good p pairs q all found = first_has (given p) (λ y. good y.1) (λ r. good r ≡ true) (λ x r holds h. given_has good p x r holds h) pairs q all found

pub current_in_small : (d : DeckValue) (e : Element) (c : ℕ × ℕ) → Limits d → unsigned_abs (current_in d e c) ≤ 10 ^ 12
unfolding current_in
current_in_small d (Resistor name first second ohms) c l = resistor_small d.grain ohms c.0
current_in_small d (Capacitor name plus minus farads) c l = omega arith
current_in_small d (Source name plus minus wave) c l = omega arith
current_in_small d (Mos name drain gate source bulk part len width) c l = by (look_up part d.parts) refl
  where
    by : (o : Option Part) → look_up part d.parts ≡ o → unsigned_abs (elim o as (λ _. ℤ) [ None ↦ pos 0 | Some p ↦ part_current d.grain p width len c.0 c.1 ]) ≤ 10 ^ 12
    by None h = omega arith
    by (Some p) h = part_small d.grain p width len c.0 c.1 (look_up_has is_part part d.parts p l.parts h)

pub current_small : (d : DeckValue) (v : List ℕ → Fraction) (e : Element) → Limits d → unsigned_abs (current d v e) ≤ 10 ^ 12
unfolding current
current_small d v e l = by (cells d v e)
  where
    by : (o : Option (ℕ × ℕ)) → unsigned_abs (elim o as (λ _. ℤ) [ None ↦ pos 0 | Some c ↦ current_in d e c ]) ≤ 10 ^ 12
    by None = omega arith
    by (Some c) = current_in_small d e c l

pub flow_small : (d : DeckValue) (v : List ℕ → Fraction) (n : List ℕ) (e : Element) → Limits d → unsigned_abs (flow d v n e) ≤ 10 ^ 12 * terminals_at n e
unfolding flow
flow_small d v n (Resistor name first second ohms) l = into_small n first second (current d v (Resistor name first second ohms)) (current_small d v (Resistor name first second ohms) l)
flow_small d v n (Mos name drain gate source bulk part len width) l = into_small n drain source (current d v (Mos name drain gate source bulk part len width)) (current_small d v (Mos name drain gate source bulk part len width) l)
flow_small d v n (Capacitor name plus minus farads) l = omega arith
flow_small d v n (Source name plus minus wave) l = omega arith

pub sum_small : (d : DeckValue) (v : List ℕ → Fraction) (n : List ℕ) (es : List Element) (z : ℤ) (k : ℕ) → Limits d → unsigned_abs z ≤ 10 ^ 12 * k → unsigned_abs (fold (λ total e. total +ℤ flow d v n e) z es) ≤ 10 ^ 12 * fold (λ total e. total + terminals_at n e) k es
sum_small d v n [] z k l h = h
sum_small d v n (e ∷ es) z k l h =
    let one : unsigned_abs (flow d v n e) ≤ 10 ^ 12 * terminals_at n e = flow_small d v n e l in
    sum_small d v n es (z +ℤ flow d v n e) (k + terminals_at n e) l (omega (arith, ints, one, h))

pub node_current_small : (d : DeckValue) (v : List ℕ → Fraction) (n : List ℕ) → Limits d → unsigned_abs (node_current d v n) ≤ 10 ^ 12 * terminals d n
unfolding node_current terminals
node_current_small d v n l = sum_small d v n d.elements (pos 0) 0 l (omega arith)

-- ---- sources

abbrev IsBetween : Fraction → Type 0
IsBetween v = (unsigned_abs v.num ≤ 10 ^ 19) × (1 ≤ v.den) × (v.den ≤ 10 ^ 10)

-- a level voltage
level_between : (z : ℤ) → unsigned_abs z ≤ 10 ^ 9 → IsBetween (level z)
level_between z h = (omega (arith, h), omega arith, omega arith)

-- a voltage on the straight line between two points
line_between : (p q : ℕ × ℤ) (t : ℕ) → p.0 ≤ t → t < q.0 → q.0 ≤ 10 ^ 10 → unsigned_abs p.1 ≤ 10 ^ 9 → unsigned_abs q.1 ≤ 10 ^ 9 → IsBetween (between p q t)
line_between p q t from upto short low high =
    let rise : unsigned_abs (p.1 *ℤ pos (q.0 - t)) ≤ 10 ^ 9 * (q.0 - t) = rw (unsigned_abs-mul p.1 (pos (q.0 - t))) (mul-le-mul_right (q.0 - t) low) in
    let fall : unsigned_abs (q.1 *ℤ pos (t - p.0)) ≤ 10 ^ 9 * (t - p.0) = rw (unsigned_abs-mul q.1 (pos (t - p.0))) (mul-le-mul_right (t - p.0) high) in
    (omega (arith, ints, rise, fall), omega arith, omega arith)

-- what the limits say of a point
point_small : (p : ℕ × ℤ) → (short_time p.0 && small_volts p.1) ≡ true → (p.0 ≤ 10 ^ 10) × (unsigned_abs p.1 ≤ 10 ^ 9)
point_small p h = let both = and_parts (short_time p.0) (small_volts p.1) h in (leb-true p.0 (10 ^ 10) both.0, leb-true (unsigned_abs p.1) (10 ^ 9) both.1)

abbrev each_small : List (ℕ × ℤ) → Bool
each_small points = list_all (λ p. short_time p.0 && small_volts p.1) points

pair_from_between : (p : ℕ × ℤ) (qs : List (ℕ × ℤ)) (t : ℕ) → p.0 ≤ t → each_small (p ∷ qs) ≡ true → IsBetween (pair_from p qs t)
pair_from_between p [] t from small = level_between p.1 (point_small p (and_parts _ _ small).0).1
pair_from_between p (q ∷ qs) t from small =
    let head = point_small p (and_parts (short_time p.0 && small_volts p.1) (each_small (q ∷ qs)) small).0 in
    let tail : each_small (q ∷ qs) ≡ true = (and_parts (short_time p.0 && small_volts p.1) (each_small (q ∷ qs)) small).1 in
    let next = point_small q (and_parts (short_time q.0 && small_volts q.1) (each_small qs) tail).0 in
    cond_both (nat_lt t q.0) (between p q t) (pair_from q qs t) IsBetween
    (λ h. line_between p q t from (ltb-true t q.0 h) next.0 head.1 next.1)
    (λ h. pair_from_between q qs t (ltb-false t q.0 h) tail)

pub pair_between : (ps : List (ℕ × ℤ)) (t : ℕ) → is_source ps ≡ true → IsBetween (pair_at ps t)
unfolding pair_at
pair_between [] t good = level_between (pos 0) (omega arith)
pair_between (p ∷ ps) t good =
    let some : Bool = not (length (p ∷ ps) == 0) in
    let small : each_small (p ∷ ps) ≡ true = (and_parts (rising_times (p ∷ ps)) (each_small (p ∷ ps)) (and_parts some (rising_times (p ∷ ps) && each_small (p ∷ ps)) good).1).1 in
    cond_both (nat_lt t p.0) (level p.1) (pair_from p ps t) IsBetween
    (λ h. level_between p.1 (point_small p (and_parts (short_time p.0 && small_volts p.1) (each_small ps) small).0).1)
    (λ h. pair_from_between p ps t (ltb-false t p.0 h) small)

slope_from_small : (p : ℕ × ℤ) (qs : List (ℕ × ℤ)) (t : ℕ) → each_small (p ∷ qs) ≡ true → unsigned_abs (slope_from p qs t) ≤ 2 * 10 ^ 9
slope_from_small p [] t small = omega arith
slope_from_small p (q ∷ qs) t small =
    let head = point_small p (and_parts (short_time p.0 && small_volts p.1) (each_small (q ∷ qs)) small).0 in
    let tail : each_small (q ∷ qs) ≡ true = (and_parts (short_time p.0 && small_volts p.1) (each_small (q ∷ qs)) small).1 in
    let next = point_small q (and_parts (short_time q.0 && small_volts q.1) (each_small qs) tail).0 in
    cond_both (nat_lt t q.0) (q.1 -ℤ p.1) (slope_from q qs t) (λ z. unsigned_abs z ≤ 2 * 10 ^ 9)
    (λ _. omega (arith, ints, head.1, next.1)) (λ _. slope_from_small q qs t tail)

pub slope_small : (ps : List (ℕ × ℤ)) (t : ℕ) → is_source ps ≡ true → unsigned_abs (slope_at ps t) ≤ 2 * 10 ^ 9
unfolding slope_at
slope_small [] t good = omega arith
slope_small (p ∷ ps) t good =
    let some : Bool = not (length (p ∷ ps) == 0) in
    let small : each_small (p ∷ ps) ≡ true = (and_parts (rising_times (p ∷ ps)) (each_small (p ∷ ps)) (and_parts some (rising_times (p ∷ ps) && each_small (p ∷ ps)) good).1).1 in
    cond_both (nat_lt t p.0) (pos 0) (slope_from p ps t) (λ z. unsigned_abs z ≤ 2 * 10 ^ 9) (λ _. omega arith) (λ _. slope_from_small p ps t small)

signed_small : (b : Bool) (z : ℤ) (k : ℕ) → unsigned_abs z ≤ k → unsigned_abs (signed b z) ≤ k
signed_small true z k h = neg_small z k h
signed_small false z k h = h

-- ---- free nodes

-- a free node of a valid deck
pub record IsFree (d : DeckValue) (n : List ℕ) : Type 0 where
  pub free : driver d n ≡ None
  pub held : is_held d n ≡ true

held_at : (d : DeckValue) (ns : List (List ℕ)) (i : ℕ) → list_all (is_held d) (filter (λ n. is_none (driver d n)) ns) ≡ true → i < length ns → driver d (get_or ns i []) ≡ None → is_held d (get_or ns i []) ≡ true
held_at d [] i all below free = absurd (omega arith)
held_at d (n ∷ ns) zero all below free =
    let kept : is_none (driver d n) ≡ true = rw free refl in
    (and_parts (is_held d n) (list_all (is_held d) (filter (λ m. is_none (driver d m)) ns))
    (rw (cond-true (is_none (driver d n)) (n ∷ filter (λ m. is_none (driver d m)) ns) (filter (λ m. is_none (driver d m)) ns) kept) at all)).0
held_at d (n ∷ ns) (suc i) all below free = held_at d ns i
    (by (is_none (driver d n)) all) (omega arith) free
  where
    by : (b : Bool) → list_all (is_held d) (cond b (n ∷ filter (λ m. is_none (driver d m)) ns) (filter (λ m. is_none (driver d m)) ns)) ≡ true → list_all (is_held d) (filter (λ m. is_none (driver d m)) ns) ≡ true
    by true h = (and_parts (is_held d n) (list_all (is_held d) (filter (λ m. is_none (driver d m)) ns)) h).1
    by false h = h

pub free_at : (d : DeckValue) (i : ℕ) → Limits d → i < length (nodes d) → driver d (get_or (nodes d) i []) ≡ None → IsFree d (get_or (nodes d) i [])
unfolding free_nodes
free_at d i l below free = record { free = free; held = held_at d (nodes d) i l.held below free }

pub record Held (d : DeckValue) (n : List ℕ) : Type 0 where
  pub some : 1 ≤ capacity d n
  pub most : capacity d n ≤ 10 ^ 12
  pub ends : terminals d n ≤ 1000

within : (z : ℤ) → int_lt (pos 0) z ≡ true → int_le z (pos (10 ^ 12)) ≡ true → (1 ≤ unsigned_abs z) × (unsigned_abs z ≤ 10 ^ 12)
within (pos n) low high = (ltb-true 0 n low, leb-true n (10 ^ 12) high)
within (negsuc n) low high = absurd (false≢true low)

pub held : (d : DeckValue) (n : List ℕ) → is_held d n ≡ true → Held d n
held d n h =
    let some : Bool = int_lt (pos 0) (total_farads d n) in
    let most : Bool = int_le (total_farads d n) (pos (10 ^ 12)) in
    let starts : Bool = d.uic || is_some (look_up n d.initial) in
    let ends : Bool = nat_le (terminals d n) 1000 in
    let farads = and_parts some most (and_parts (some && most) (starts && ends) h).0 in
    let range = within (total_farads d n) farads.0 farads.1 in
    record {
      some = range.0;
      most = range.1;
      ends = leb-true (terminals d n) 1000 (and_parts starts ends (and_parts (some && most) (starts && ends) h).1).1;
    }

pub initial_small : (d : DeckValue) (n : List ℕ) → Limits d → unsigned_abs (initial_of d n) ≤ 10 ^ 9
unfolding initial_of
initial_small d n l = by (look_up n d.initial) refl
  where
    by : (o : Option ℤ) → look_up n d.initial ≡ o → unsigned_abs (unwrap_or o (pos 0)) ≤ 10 ^ 9
    by None h = omega arith
    by (Some z) h = leb-true (unsigned_abs z) (10 ^ 9) (look_up_has small_volts n d.initial z l.initial h)

-- ---- the run

pub charge_small : (d : DeckValue) (n : List ℕ) (t : ℕ) → Limits d → Held d n → unsigned_abs (charge d t n) ≤ 10 ^ 21 + 10 ^ 15 * t
unfolding charge
charge_small d n zero l h =
    rw (unsigned_abs-mul (pos (capacity d n)) (initial_of d n))
    (omega (arith, mul-le (capacity d n) (unsigned_abs (initial_of d n)) (10 ^ 12) (10 ^ 9) h.most (initial_small d n l)))
charge_small d n (suc t) l h =
    let flows : ℤ = node_current d (voltages d t (λ m. record { num = charge d t m; den = capacity d m })) n in
    let one : unsigned_abs flows ≤ 10 ^ 12 * terminals d n = node_current_small d (voltages d t (λ m. record { num = charge d t m; den = capacity d m })) n l in
    let before : unsigned_abs (charge d t n) ≤ 10 ^ 21 + 10 ^ 15 * t = charge_small d n t l h in
    omega (arith, ints, one, before, h.ends)

-- a voltage of the run: it is bounded, and its denominator too
pub record IsVoltage (t : ℕ) (v : Fraction) : Type 0 where
  pub num : unsigned_abs v.num ≤ 10 ^ 21 + 10 ^ 15 * t
  pub den_low : 1 ≤ v.den
  pub den_high : v.den ≤ 10 ^ 12

pub run_ground : (d : DeckValue) (t : ℕ) (n : List ℕ) → is_ground n ≡ true → run d t n ≡ record { num = pos 0; den = 1 }
unfolding run voltages
run_ground d t n ground' = rw (ground') refl

pub run_free : (d : DeckValue) (t : ℕ) (n : List ℕ) → is_ground n ≡ false → driver d n ≡ None → run d t n ≡ record { num = charge d t n; den = capacity d n }
unfolding run voltages
run_free d t n real free = rw (real, free) refl

pub run_driven : (d : DeckValue) (t : ℕ) (n : List ℕ) (s : List (ℕ × ℤ) × Bool) → is_ground n ≡ false → driver d n ≡ Some s → run d t n ≡ record { num = signed s.1 (pair_at s.0 t).num; den = (pair_at s.0 t).den }
unfolding run voltages
run_driven d t n s real driven = rw (real, driven) refl

-- the voltage of a node
pub node_voltage : (d : DeckValue) (t i : ℕ) → Limits d → i < length (nodes d) → IsVoltage t (run d t (get_or (nodes d) i []))
node_voltage d t i l below = by (driver d (get_or (nodes d) i [])) refl
  where
    by : (o : Option (List (ℕ × ℤ) × Bool)) → driver d (get_or (nodes d) i []) ≡ o → IsVoltage t (run d t (get_or (nodes d) i []))
    by None free =
        let h : Held d (get_or (nodes d) i []) = held d (get_or (nodes d) i []) (free_at d i l below free).held in
        rw (run_free d t (get_or (nodes d) i []) ((AreNodes-nodes d).real i below) free)
        (record { num = charge_small d (get_or (nodes d) i []) t l h; den_low = h.some; den_high = h.most })
    by (Some s) driven =
        let b : IsBetween (pair_at s.0 t) = pair_between s.0 t (driver_source d (get_or (nodes d) i []) s l driven) in
        let num : unsigned_abs (signed s.1 (pair_at s.0 t).num) ≤ 10 ^ 19 = signed_small s.1 (pair_at s.0 t).num (10 ^ 19) b.0 in
        rw (run_driven d t (get_or (nodes d) i []) s ((AreNodes-nodes d).real i below) driven)
        (record { num = omega (arith, num); den_low = b.1; den_high = omega (arith, b.2) })

-- the slope of a node
pub node_rate : (d : DeckValue) (t i : ℕ) → Limits d → i < length (nodes d) → unsigned_abs (rate d t (get_or (nodes d) i [])) ≤ 10 ^ 15
unfolding rate
node_rate d t i l below = by (driver d (get_or (nodes d) i [])) refl
  where
    by : (o : Option (List (ℕ × ℤ) × Bool)) → driver d (get_or (nodes d) i []) ≡ o → unsigned_abs (elim o as (λ _. ℤ) [ None ↦ node_current d (run d t) (get_or (nodes d) i []) | Some s ↦ signed s.1 (slope_at s.0 t) ]) ≤ 10 ^ 15
    by None free =
        let h : Held d (get_or (nodes d) i []) = held d (get_or (nodes d) i []) (free_at d i l below free).held in
        omega (arith, node_current_small d (run d t) (get_or (nodes d) i []) l, h.ends)
    by (Some s) driven =
        omega (arith, signed_small s.1 (slope_at s.0 t) (2 * 10 ^ 9) (slope_small s.0 t (driver_source d (get_or (nodes d) i []) s l driven)))
