-- An accepted edit of a valid deck gives a valid deck.
use Rattle.std.proofs.Common.{◌≡◌, ◌∙◌, ℕ, ℤ, pos, nat_lt, nat_le, ◌==◌, Bool, true, false, not, ◌&&◌, ◌||◌, cond, List, [], ◌∷◌, ◌++◌, length, map, filter, Option, Some, None, unwrap_or, is_none, codes, refl, sym, ap, subst}
use Rattle.std.specs.List.{list_all, list_any, flat_map}
use Rattle.std.specs.Option.{option_or}
use Rattle.std.specs.Str.{bytes_eq}
use Rattle.std.proofs.lemmas.Bool.{false≢true, or_cases, or_left, or_right}
use Rattle.std.proofs.lemmas.Option.{none-some}
use Rattle.std.proofs.lemmas.List.{map-append}
use Rattle.std.proofs.lemmas.List.Concat.{flat_map-append}
use Rattle.semantics.specs.declared.element.Element.{Element}
use Rattle.semantics.specs.declared.element.Element.TheVariants.{Resistor, Capacitor, Source, Mos}
use Rattle.semantics.specs.Part as part
use Rattle.semantics.specs.Points.{rising_times}
use Rattle.semantics.specs.Deck.{DeckValue, name_of, first_some}
use Rattle.semantics.specs.Valid.{is_valid, has_limits, has_elements, has_nodes, differ, driven_of, is_grounded, has_part, in_limits, is_part, is_source, short_time, some_grain, small_volts, some_ohms, some_farads, some_metres}
use Rattle.deck_cards.specs.declared.edit_refusal.EditRefusal.{EditRefusal}
use Rattle.deck_cards.specs.declared.edit_refusal.EditRefusal.TheVariants.{NoSuchName, WrongKind, NoSuchModel, Limit}
use Rattle.deck_cards.specs.declared.which.Which.{Which}
use Rattle.deck_cards.specs.declared.which.Which.TheVariants.{Volts, Seconds, Grain, Ohms, Farads, Metres}
use Rattle.deck_cards.specs.declared.edit.Edit.{Edit}
use Rattle.deck_cards.specs.declared.edit.Edit.TheVariants.{SetR, SetC, SetWave, SetModel, SetIc, Add, Remove}
use Rattle.deck_cards.specs.Settled.{put}
use Rattle.deck_cards.specs.Causes.{when, part_name, add_cause, adding_cause, uncapped, no_initial, value_limit, many_elements, many_nodes, node_farads, many_terminals, limit, limited, outside, point_limit, part_limit, element_limit, whole_with}
use Rattle.deck_cards.specs.Edits.{edit_cause, place_cause, set_cause, edit_limit, edit_rises, element_rises, has_rising, edited, named, set_named, without_name, with_ohms, with_farads, with_wave, with_part}
use Rattle.deck_cards.proofs.Added.{CanAdd, can_add, added}
use Rattle.deck_cards.proofs.Firsts.{none-or, none_when, none_map, or_none}
use Rattle.deck_cards.proofs.Named.{and_both, or_both, from_not}
use Rattle.deck_cards.proofs.Once.{put_once}
use Rattle.deck_cards.proofs.Standing.{Stands, found, some_same, elements_to}
use Rattle.deck_cards.proofs.Swapped.{map_swap, flat_swap, all_swap, middle}
use Rattle.deck_cards.proofs.Within.{limit_none, none_limit, none_first, all_none, limited_none, element_none, part_none}
use Rattle.deck_cards.proofs.Validity.{IsClear, clear_valid}

-- what a deck has besides its elements and nodes
pub record Framed (d : DeckValue) : Type 0 where
  pub stop : short_time d.stop ≡ true
  pub grain : some_grain d.grain ≡ true
  pub parts_differ : differ (map (λ p. p.0) d.parts) ≡ true
  pub parts : list_all (λ p. is_part p.1) d.parts ≡ true
  pub initial_differ : differ (map (λ p. p.0) d.initial) ≡ true
  pub initial : list_all (λ p. small_volts p.1) d.initial ≡ true

-- what its elements have
pub record Fits (d : DeckValue) : Type 0 where
  pub names : differ (map name_of d.elements) ≡ true
  pub driven : differ (flat_map driven_of d.elements) ≡ true
  pub grounded : list_all is_grounded d.elements ≡ true
  pub parts : list_all (has_part d) d.elements ≡ true
  pub values : list_all in_limits d.elements ≡ true

pub framed : (d : DeckValue) → is_valid d ≡ true → Framed d
unfolding is_valid
framed d valid =
    let w = and_both (has_limits d) _ valid in
    let r = and_both (short_time d.stop && some_grain d.grain) _ w.0 in
    let t = and_both (short_time d.stop) (some_grain d.grain) r.0 in
    let q = and_both (differ (map (λ p. p.0) d.parts) && list_all (λ p. is_part p.1) d.parts) _ r.1 in
    let a = and_both (differ (map (λ p. p.0) d.parts)) _ q.0 in
    let b = and_both (differ (map (λ p. p.0) d.initial)) _ q.1 in
    record { stop = t.0; grain = t.1; parts_differ = a.0; parts = a.1; initial_differ = b.0; initial = b.1 }

pub fits : (d : DeckValue) → is_valid d ≡ true → Fits d
unfolding is_valid
fits d valid =
    let w = and_both (has_limits d) _ valid in
    let e = and_both (has_elements d) (has_nodes d) w.1 in
    let a = and_both (differ (map name_of d.elements) && differ (flat_map driven_of d.elements)) _ e.0 in
    let b = and_both (differ (map name_of d.elements)) _ a.0 in
    let g = and_both (list_all is_grounded d.elements) _ a.1 in
    let h = and_both (list_all (has_part d) d.elements) _ g.1 in
    record { names = b.0; driven = b.1; grounded = g.0; parts = h.0; values = h.1 }

pub values_none : (d : DeckValue) → Framed d → list_all in_limits d.elements ≡ true → value_limit d ≡ None
unfolding value_limit
values_none d f values = λ i. option_or (limit (f.stop i) Seconds (codes ".tran")) (option_or (limit (f.grain i) Grain (codes ".options"))
    (option_or (none_first (λ (p : List ℕ × part.Part). is_part p.1) (λ p. limited p.0 (part_limit p.1)) (λ p h. limited_none p.0 (part_limit p.1) (part_none p.1 h)) d.parts f.parts i)
    (option_or (none_first (λ (p : List ℕ × ℤ). small_volts p.1) (λ p. limit (small_volts p.1) Volts p.0) (λ p h. limit_none (small_volts p.1) Volts p.0 h) d.initial f.initial i)
    (option_or (none_first in_limits (λ e. limited (name_of e) (element_limit e)) (λ e h. limited_none (name_of e) (element_limit e) (element_none e h)) d.elements values i) None))))

assembled : (new : DeckValue) (value : Option EditRefusal) → Framed new → Fits new → whole_with value new ≡ None → is_valid new ≡ true
assembled new value f s none =
    let capped = none-or (uncapped new) _ none in
    let voltages = none-or (no_initial new) _ capped.1 in
    let values = none-or value _ voltages.1 in
    let elements = none-or (many_elements new) _ values.1 in
    let nodes = none-or (many_nodes new) _ elements.1 in
    let farads = none-or (node_farads new) _ nodes.1 in
    let ends = none-or (many_terminals new) None farads.1 in
    clear_valid new (record {
      adding = added new [] new.elements (record { names = s.names; driven = s.driven; grounded = s.grounded; parts = s.parts });
      capped = capped.0;
      voltages = voltages.0;
      values = values_none new f s.values;
      elements = elements.0;
      nodes = nodes.0;
      farads = farads.0;
      ends = ends.0;
    }) f.parts_differ f.parts f.initial_differ s.values

pub placed : (d : DeckValue) (e : Edit) → edit_cause d e ≡ None → place_cause d e ≡ None
unfolding edit_cause
placed d e free = by (place_cause d e) free
  where
    by : (o : Option EditRefusal) → option_or o (whole_with (edit_limit e) (edited d e)) ≡ None → o ≡ None
    by None is = refl
    by (Some cause) is = is

-- the value of the edit, and the whole deck after it, have no cause
limit_free : (d : DeckValue) (e : Edit) → edit_cause d e ≡ None → whole_with (edit_limit e) (edited d e) ≡ None
unfolding edit_cause
limit_free d e free = (none-or (place_cause d e) _ free).1

value_free : (d : DeckValue) (e : Edit) → edit_cause d e ≡ None → edit_limit e ≡ None
value_free d e free =
    let capped = none-or (uncapped (edited d e)) _ (limit_free d e free) in
    let voltages = none-or (no_initial (edited d e)) _ capped.1 in
    (none-or (edit_limit e) _ voltages.1).0

-- ---- one element in the place of another

-- what an element that is set has of the old one, and by itself
record Swaps (d : DeckValue) (x y : Element) : Type 0 where
  name : name_of x ≡ name_of y
  driven : driven_of x ≡ driven_of y
  grounded : is_grounded x ≡ is_grounded y
  part : has_part d y ≡ true
  value : in_limits y ≡ true

fits_set : (d : DeckValue) (n : List ℕ) (f : Element → Option Element) (x y : Element) → Fits d → named n d.elements ≡ Some x → f x ≡ Some y → Swaps d x y → Fits (elements_to d (set_named n f d.elements))
fits_set d n f x y old at is w = subst (λ es. Fits (elements_to d es)) (sym made) (record {
  names = ap differ (sym (map_swap name_of x y s.before s.after w.name)) ∙ (ap (λ es. differ (map name_of es)) (sym s.was) ∙ old.names);
  driven = ap differ (sym (flat_swap driven_of x y s.before s.after w.driven)) ∙ (ap (λ es. differ (flat_map driven_of es)) (sym s.was) ∙ old.driven);
  grounded = all_swap is_grounded x y s.before s.after (sym w.grounded ∙ ground) (ap (list_all is_grounded) (sym s.was) ∙ old.grounded);
  parts = all_swap (has_part d) x y s.before s.after w.part (ap (list_all (has_part d)) (sym s.was) ∙ old.parts);
  values = all_swap in_limits x y s.before s.after w.value (ap (list_all in_limits) (sym s.was) ∙ old.values);
})
  where
    s : Stands n d.elements x
    s = found n d.elements x old.names at

    made : set_named n f d.elements ≡ s.before ++ (y ∷ s.after)
    made = s.set f ∙ ap (λ o. s.before ++ (unwrap_or o x ∷ s.after)) is

    ground : is_grounded x ≡ true
    ground = middle is_grounded s.before x s.after (ap (list_all is_grounded) (sym s.was) ∙ old.grounded)

-- ---- the kinds

abbrev pub kind_cause : DeckValue → List ℕ → Option Element → Option EditRefusal
kind_cause d n None = Some (WrongKind n)
kind_cause d n (Some x) = when (not (has_part d x)) (NoSuchModel (part_name x))

abbrev pub found_cause : DeckValue → List ℕ → (Element → Option Element) → Option Element → Option EditRefusal
found_cause d n f None = Some (NoSuchName n)
found_cause d n f (Some e) = kind_cause d n (f e)

pub reframed : (d : DeckValue) (es : List Element) → Framed d → Framed (elements_to d es)
reframed d es f = record { stop = f.stop; grain = f.grain; parts_differ = f.parts_differ; parts = f.parts; initial_differ = f.initial_differ; initial = f.initial }

from_false : (b : Bool) → not b ≡ false → b ≡ true
from_false true h = refl
from_false false h = absurd (false≢true (sym h))

set_valid : (d : DeckValue) (n : List ℕ) (f : Element → Option Element) (value : Option EditRefusal) → is_valid d ≡ true
    → ((x y : Element) → f x ≡ Some y → in_limits x ≡ true → has_part d y ≡ true → Swaps d x y) → set_cause d n f ≡ None
    → whole_with value (elements_to d (set_named n f d.elements)) ≡ None → is_valid (elements_to d (set_named n f d.elements)) ≡ true
set_valid d n f value valid swaps free whole = assembled (elements_to d (set_named n f d.elements)) value (reframed d (set_named n f d.elements) (framed d valid)) (by (named n d.elements) refl free) whole
  where
    old : Fits d
    old = fits d valid

    limits_of : (x : Element) → named n d.elements ≡ Some x → in_limits x ≡ true
    limits_of x at = middle in_limits (found n d.elements x old.names at).before x (found n d.elements x old.names at).after (ap (list_all in_limits) (sym (found n d.elements x old.names at).was) ∙ old.values)

    part : (x : Element) (o : Option Element) → named n d.elements ≡ Some x → f x ≡ o → kind_cause d n o ≡ None → Fits (elements_to d (set_named n f d.elements))
    part x None at is bad = absurd (none-some (WrongKind n) (sym bad))
    part x (Some y) at is ok = fits_set d n f x y old at is (swaps x y is (limits_of x at) (from_false (has_part d y) (none_when (not (has_part d y)) (NoSuchModel (part_name y)) ok)))

    by : (o : Option Element) → named n d.elements ≡ o → found_cause d n f o ≡ None → Fits (elements_to d (set_named n f d.elements))
    by None is bad = absurd (none-some (NoSuchName n) (sym bad))
    by (Some x) is ok = part x (f x) is refl ok

swap_is : (d : DeckValue) (x z y : Element) → Some z ≡ Some y → Swaps d x z → Swaps d x y
swap_is d x z y is s = subst (Swaps d x) (some_same z y is) s

swaps_ohms : (d : DeckValue) (ohms : ℤ) → some_ohms ohms ≡ true → (x y : Element) → with_ohms ohms x ≡ Some y → in_limits x ≡ true → has_part d y ≡ true → Swaps d x y
swaps_ohms d ohms ok (Resistor name first second old) y is inside part = swap_is d _ _ y is (record { name = refl; driven = refl; grounded = refl; part = refl; value = ok })
swaps_ohms d ohms ok (Capacitor name plus minus farads) y is inside part = absurd (none-some y is)
swaps_ohms d ohms ok (Source name plus minus wave) y is inside part = absurd (none-some y is)
swaps_ohms d ohms ok (Mos name drain gate source bulk model len width) y is inside part = absurd (none-some y is)

swaps_farads : (d : DeckValue) (farads : ℤ) → some_farads farads ≡ true → (x y : Element) → with_farads farads x ≡ Some y → in_limits x ≡ true → has_part d y ≡ true → Swaps d x y
swaps_farads d farads ok (Capacitor name plus minus old) y is inside part = swap_is d _ _ y is (record { name = refl; driven = refl; grounded = refl; part = refl; value = ok })
swaps_farads d farads ok (Resistor name first second ohms) y is inside part = absurd (none-some y is)
swaps_farads d farads ok (Source name plus minus wave) y is inside part = absurd (none-some y is)
swaps_farads d farads ok (Mos name drain gate source bulk model len width) y is inside part = absurd (none-some y is)

swaps_wave : (d : DeckValue) (wave : List (ℕ × ℤ)) → is_source wave ≡ true → (x y : Element) → with_wave wave x ≡ Some y → in_limits x ≡ true → has_part d y ≡ true → Swaps d x y
swaps_wave d wave ok (Source name plus minus old) y is inside part = swap_is d _ _ y is (record { name = refl; driven = refl; grounded = refl; part = refl; value = ok })
swaps_wave d wave ok (Resistor name first second ohms) y is inside part = absurd (none-some y is)
swaps_wave d wave ok (Capacitor name plus minus farads) y is inside part = absurd (none-some y is)
swaps_wave d wave ok (Mos name drain gate source bulk model len width) y is inside part = absurd (none-some y is)

swaps_part : (d : DeckValue) (model : List ℕ) → (x y : Element) → with_part model x ≡ Some y → in_limits x ≡ true → has_part d y ≡ true → Swaps d x y
swaps_part d model (Mos name drain gate source bulk old len width) y is inside part =
    swap_is d _ _ y is (record { name = refl; driven = refl; grounded = refl; part = subst (λ z. has_part d z ≡ true) (sym (some_same _ y is)) part; value = inside })
swaps_part d model (Resistor name first second ohms) y is inside part = absurd (none-some y is)
swaps_part d model (Capacitor name plus minus farads) y is inside part = absurd (none-some y is)
swaps_part d model (Source name plus minus wave) y is inside part = absurd (none-some y is)

-- ---- values within their limits

inside_of : (b : Bool) (w : Which) → outside b w ≡ None → b ≡ true
inside_of b w none = from_false b (none_when (not b) w none)

point_inside : (p : ℕ × ℤ) → point_limit p ≡ None → (short_time p.0 && small_volts p.1) ≡ true
point_inside p none =
    let a = none-or (outside (short_time p.0) Seconds) _ none in
    let b = none-or (outside (small_volts p.1) Volts) None a.1 in
    λ i. inside_of (short_time p.0) Seconds a.0 i && inside_of (small_volts p.1) Volts b.0 i

wave_within : (wave : List (ℕ × ℤ)) → has_rising wave ≡ true → first_some point_limit wave ≡ None → is_source wave ≡ true
wave_within wave rises none =
    let r = and_both (not (length wave == 0)) (rising_times wave) rises in
    λ i. r.0 i && (r.1 i && all_none (λ (p : ℕ × ℤ). short_time p.0 && small_volts p.1) point_limit point_inside wave none i)

within : (e : Element) → element_rises e ≡ true → element_limit e ≡ None → in_limits e ≡ true
unfolding element_limit
within (Resistor name first second ohms) rises none = inside_of (some_ohms ohms) Ohms none
within (Capacitor name plus minus farads) rises none = inside_of (some_farads farads) Farads none
within (Source name plus minus wave) rises none = wave_within wave rises none
within (Mos name drain gate source bulk model len width) rises none = inside_of (some_metres len && some_metres width) Metres none

-- ---- one element more, one less

pub all_more : (p : Element → Bool) (xs : List Element) (e : Element) → list_all p xs ≡ true → p e ≡ true → list_all p (xs ++ e ∷ []) ≡ true
all_more p [] e all is = λ i. is i && true
all_more p (x ∷ xs) e all is = let h = and_both (p x) (list_all p xs) all in λ i. h.0 i && all_more p xs e h.1 is i

fits_add : (d : DeckValue) (e : Element) → Fits d → add_cause d d.elements e ≡ None → in_limits e ≡ true → Fits (elements_to d (d.elements ++ e ∷ []))
unfolding adding_cause
fits_add d e old free inside =
    let can = can_add d d.elements (e ∷ []) (λ i. option_or (free i) None) old.names old.driven in
    record {
      names = can.names;
      driven = can.driven;
      grounded = all_more is_grounded d.elements e old.grounded (and_both (is_grounded e) true can.grounded).0;
      parts = all_more (has_part d) d.elements e old.parts (and_both (has_part d e) true can.parts).0;
      values = all_more in_limits d.elements e old.values inside;
    }

any_tail : (p : List ℕ → Bool) (ks ms : List (List ℕ)) → list_any p (ks ++ ms) ≡ false → list_any p ms ≡ false
any_tail p [] ms off = off
any_tail p (k ∷ ks) ms off = any_tail p ks ms (or_both (p k) (list_any p (ks ++ ms)) off).1

any_less : (p : List ℕ → Bool) (ns ks ms : List (List ℕ)) → list_any p (ns ++ (ks ++ ms)) ≡ false → list_any p (ns ++ ms) ≡ false
any_less p [] ks ms off = any_tail p ks ms off
any_less p (n ∷ ns) ks ms off = let h = or_both (p n) (list_any p (ns ++ (ks ++ ms))) off in λ i. h.0 i || any_less p ns ks ms h.1 i

differ_tail : (ks ms : List (List ℕ)) → differ (ks ++ ms) ≡ true → differ ms ≡ true
differ_tail [] ms all = all
differ_tail (k ∷ ks) ms all = differ_tail ks ms (and_both (not (list_any (bytes_eq k) (ks ++ ms))) (differ (ks ++ ms)) all).1

differ_less : (ns ks ms : List (List ℕ)) → differ (ns ++ (ks ++ ms)) ≡ true → differ (ns ++ ms) ≡ true
differ_less [] ks ms all = differ_tail ks ms all
differ_less (n ∷ ns) ks ms all =
    let h = and_both (not (list_any (bytes_eq n) (ns ++ (ks ++ ms)))) (differ (ns ++ (ks ++ ms))) all in
    λ i. not (any_less (bytes_eq n) ns ks ms (from_not _ h.0) i) && differ_less ns ks ms h.1 i

all_less : (p : Element → Bool) (bs : List Element) (x : Element) (cs : List Element) → list_all p (bs ++ (x ∷ cs)) ≡ true → list_all p (bs ++ cs) ≡ true
all_less p [] x cs all = (and_both (p x) (list_all p cs) all).1
all_less p (b ∷ bs) x cs all = let h = and_both (p b) (list_all p (bs ++ (x ∷ cs))) all in λ i. h.0 i && all_less p bs x cs h.1 i

pub fits_removed : (d : DeckValue) (n : List ℕ) (x : Element) → Fits d → named n d.elements ≡ Some x → Fits (elements_to d (without_name n d.elements))
fits_removed d n x old at = subst (λ es. Fits (elements_to d es)) (sym s.out) (record {
  names = ap differ (map-append name_of s.before s.after) ∙ differ_less (map name_of s.before) (name_of x ∷ []) (map name_of s.after)
      (ap differ (sym (map-append name_of s.before (x ∷ s.after))) ∙ (ap (λ es. differ (map name_of es)) (sym s.was) ∙ old.names));
  driven = ap differ (flat_map-append driven_of s.before s.after) ∙ differ_less (flat_map driven_of s.before) (driven_of x) (flat_map driven_of s.after)
      (ap differ (sym (flat_map-append driven_of s.before (x ∷ s.after))) ∙ (ap (λ es. differ (flat_map driven_of es)) (sym s.was) ∙ old.driven));
  grounded = all_less is_grounded s.before x s.after (ap (list_all is_grounded) (sym s.was) ∙ old.grounded);
  parts = all_less (has_part d) s.before x s.after (ap (list_all (has_part d)) (sym s.was) ∙ old.parts);
  values = all_less in_limits s.before x s.after (ap (list_all in_limits) (sym s.was) ∙ old.values);
})
  where
    s : Stands n d.elements x
    s = found n d.elements x old.names at

-- ---- an initial voltage

all_put : (ps : List (List ℕ × ℤ)) (p : List ℕ × ℤ) → list_all (λ q. small_volts q.1) ps ≡ true → small_volts p.1 ≡ true → list_all (λ q. small_volts q.1) (put ps p) ≡ true
all_put [] p all is = λ i. is i && true
all_put (q ∷ qs) p all is = by (bytes_eq p.0 q.0) (all_put qs p (and_both (small_volts q.1) (list_all (λ r. small_volts r.1) qs) all).1 is)
  where
    by : (b : Bool) → list_all (λ r. small_volts r.1) (put qs p) ≡ true → list_all (λ r. small_volts r.1) (cond b ((q.0, p.1) ∷ qs) (q ∷ put qs p)) ≡ true
    by true rest = λ i. is i && (and_both (small_volts q.1) (list_all (λ r. small_volts r.1) qs) all).1 i
    by false rest = λ i. (and_both (small_volts q.1) (list_all (λ r. small_volts r.1) qs) all).0 i && rest i

-- ---- any edit

pub stays_valid : (d : DeckValue) (e : Edit) → is_valid d ≡ true → edit_rises e ≡ true → edit_cause d e ≡ None → is_valid (edited d e) ≡ true
unfolding edited place_cause edit_limit
stays_valid d (SetR name ohms) valid rises free = set_valid d name (with_ohms ohms) (edit_limit (SetR name ohms)) valid
    (swaps_ohms d ohms (none_limit (some_ohms ohms) Ohms name (value_free d (SetR name ohms) free))) (placed d (SetR name ohms) free) (limit_free d (SetR name ohms) free)
stays_valid d (SetC name farads) valid rises free = set_valid d name (with_farads farads) (edit_limit (SetC name farads)) valid
    (swaps_farads d farads (none_limit (some_farads farads) Farads name (value_free d (SetC name farads) free))) (placed d (SetC name farads) free) (limit_free d (SetC name farads) free)
stays_valid d (SetWave name wave) valid rises free = set_valid d name (with_wave wave) (edit_limit (SetWave name wave)) valid
    (swaps_wave d wave (wave_within wave rises (none_map (λ w. Limit w name) _ (value_free d (SetWave name wave) free)))) (placed d (SetWave name wave) free) (limit_free d (SetWave name wave) free)
stays_valid d (SetModel name model) valid rises free = set_valid d name (with_part model) (edit_limit (SetModel name model)) valid (swaps_part d model) (placed d (SetModel name model) free) (limit_free d (SetModel name model) free)
stays_valid d (SetIc node volts) valid rises free =
    let f = framed d valid in
    let old = fits d valid in
    let small = none_limit (small_volts volts) Volts node (value_free d (SetIc node volts) free) in
    assembled (record d { initial = put d.initial (node, volts) }) (edit_limit (SetIc node volts)) (record {
      stop = f.stop;
      grain = f.grain;
      parts_differ = f.parts_differ;
      parts = f.parts;
      initial_differ = put_once d.initial (node, volts) f.initial_differ;
      initial = all_put d.initial (node, volts) f.initial small;
    }) (record { names = old.names; driven = old.driven; grounded = old.grounded; parts = old.parts; values = old.values }) (limit_free d (SetIc node volts) free)
stays_valid d (Add e) valid rises free = assembled (elements_to d (d.elements ++ e ∷ [])) (edit_limit (Add e)) (reframed d (d.elements ++ e ∷ []) (framed d valid))
    (fits_add d e (fits d valid) (placed d (Add e) free) (within e rises (none_map (λ w. Limit w (name_of e)) _ (value_free d (Add e) free)))) (limit_free d (Add e) free)
stays_valid d (Remove name) valid rises free = assembled (elements_to d (without_name name d.elements)) (edit_limit (Remove name)) (reframed d (without_name name d.elements) (framed d valid))
    (by (named name d.elements) refl (none_when (is_none (named name d.elements)) (NoSuchName name) (placed d (Remove name) free))) (limit_free d (Remove name) free)
  where
    by : (o : Option Element) → named name d.elements ≡ o → is_none o ≡ false → Fits (elements_to d (without_name name d.elements))
    by None is bad = absurd (false≢true (sym bad))
    by (Some x) is ok = fits_removed d name x (fits d valid) is
