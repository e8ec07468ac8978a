-- A deck has no cause against it exactly where it is valid, for waves and tables that are what their types say and names that stand once.
use Rattle.std.proofs.Common.{◌≡◌, ◌∙◌, ℕ, ◌^◌, ◌+◌, nat_le, Bool, true, false, not, ◌&&◌, ◌||◌, if◌then◌else◌, List, [], ◌∷◌, length, map, fold, None, is_none, is_some, ℤ, pos, negsuc, ◌+ℤ◌, int_lt, int_le, Less, Equal, Greater, codes, refl, ap, arith}
use Rattle.std.specs.List.{list_all, flat_map}
use Rattle.std.specs.Option.{option_or, option_map}
use Rattle.std.specs.Ordering.{int_eq, is_eq}
use Rattle.std.specs.Str.{bytes_eq}
use Rattle.std.proofs.lemmas.Bool.{le-leb, false≢true}
use Rattle.std.proofs.lemmas.Bool.Decides.{nat_tests}
use Rattle.std.proofs.lemmas.Option.{slice_get_past}
use Rattle.semantics.specs.declared.element.Element.{Element}
use Rattle.semantics.specs.declared.element.Element.TheVariants.{Resistor, Capacitor, Source, Mos}
use Rattle.semantics.specs.Part as part
use Rattle.semantics.specs.Deck.{DeckValue, name_of, first_some, look_up, nodes, free_nodes, total_farads, farads_at, terminals}
use Rattle.semantics.specs.Valid.{is_valid, has_limits, has_elements, has_nodes, is_held, differ, driven_of, is_grounded, in_limits, is_part, short_time, some_grain, small_volts, some_farads}
use Rattle.semantics.proofs.Limits.{limits}
use Rattle.deck_cards.specs.declared.edit_refusal.EditRefusal.TheVariants.{Uncapped, NoInitial, Limit}
use Rattle.deck_cards.specs.declared.which.Which.TheVariants.{Volts, Seconds, Grain, Elements, NodeFarads, Terminals}
use Rattle.deck_cards.specs.Causes.{limit, limited, adding_cause, uncapped, no_initial, value_limit, many_elements, many_nodes, node_farads, many_terminals, part_limit, element_limit, whole_cause, deck_cause}
use Rattle.deck_cards.proofs.Added.{can_add, added}
use Rattle.deck_cards.proofs.Counting.{few_none, none_few, few_elements}
use Rattle.deck_cards.proofs.Firsts.{none-or, none_that, that_none, none_map}
use Rattle.deck_cards.proofs.Named.{and_both, from_not}
use Rattle.deck_cards.proofs.Within.{limit_none, none_limit, none_first, all_none, limited_none, element_none, part_none}

-- no cause stands
pub record IsClear (d : DeckValue) : Type 0 where
  pub adding : adding_cause d [] d.elements ≡ None
  pub capped : uncapped d ≡ None
  pub voltages : no_initial d ≡ None
  pub values : value_limit d ≡ None
  pub elements : many_elements d ≡ None
  pub nodes : many_nodes d ≡ None
  pub farads : node_farads d ≡ None
  pub ends : many_terminals d ≡ None

pub clear_none : (d : DeckValue) → IsClear d → deck_cause d ≡ None
unfolding deck_cause whole_cause
clear_none d c = λ i. option_or (c.adding i) (option_or (c.capped i) (option_or (c.voltages i) (option_or (c.values i) (option_or (c.elements i) (option_or (c.nodes i) (option_or (c.farads i) (option_or (c.ends i) None)))))))

-- ---- free nodes

pub all_imply : {A : Type 0} (p q : A → Bool) → ((x : A) → p x ≡ true → q x ≡ true) → (xs : List A) → list_all p xs ≡ true → list_all q xs ≡ true
all_imply p q each [] all = refl
all_imply p q each (x ∷ xs) all = let h = and_both (p x) (list_all p xs) all in λ i. each x h.0 i && all_imply p q each xs h.1 i

pub all_both : {A : Type 0} (p q : A → Bool) (xs : List A) → list_all p xs ≡ true → list_all q xs ≡ true → list_all (λ x. p x && q x) xs ≡ true
all_both p q [] a b = refl
all_both p q (x ∷ xs) a b =
    let h = and_both (p x) (list_all p xs) a in
    let k = and_both (q x) (list_all q xs) b in
    λ i. (h.0 i && k.0 i) && all_both p q xs h.1 k.1 i

-- a sum of capacitors in their limits is not below 0
total_is : (n : List ℕ) (es : List Element) (a : ℕ) → list_all in_limits es ≡ true → (k : ℕ) × (fold (λ total e. total +ℤ farads_at n e) (pos a) es ≡ pos k)
total_is n [] a all = (a, refl)
total_is n (e ∷ es) a all =
    let h = and_both (in_limits e) (list_all in_limits es) all in
    let one = whole n e h.0 in
    let rest = total_is n es (a + one.0) h.1 in
    (rest.0, ap (λ z. fold (λ total x. total +ℤ farads_at n x) (pos a +ℤ z) es) one.1 ∙ rest.1)
  where
    whole : (n : List ℕ) (e : Element) → in_limits e ≡ true → (k : ℕ) × (farads_at n e ≡ pos k)
    whole n (Resistor name first second ohms) h = (0, refl)
    whole n (Source name plus minus wave) h = (0, refl)
    whole n (Mos name drain gate source bulk part len width) h = (0, refl)
    whole n (Capacitor name plus minus farads) h = at farads h (bytes_eq n plus || bytes_eq n minus)
      where
        at : (farads : ℤ) → some_farads farads ≡ true → (b : Bool) → (k : ℕ) × ((if b then farads else pos 0) ≡ pos k)
        at (pos x) h true = (x, refl)
        at (negsuc x) h true = absurd (false≢true h)
        at z h false = (0, refl)

positive_not_zero : (t : ℤ) → int_lt (pos 0) t ≡ true → int_eq t (pos 0) ≡ false
positive_not_zero t h = by (int_lt t (pos 0)) (int_lt (pos 0) t) h
  where
    by : (x y : Bool) → y ≡ true → is_eq (if x then Less else (if y then Greater else Equal)) ≡ false
    by true y h = refl
    by false true h = refl
    by false false h = absurd (cc)

not_zero_positive : (t : ℤ) (k : ℕ) → t ≡ pos k → int_eq t (pos 0) ≡ false → int_lt (pos 0) t ≡ true
not_zero_positive t k is h = by (int_lt t (pos 0)) (int_lt (pos 0) t) (ap (λ z. int_lt z (pos 0)) is ∙ none k) h
  where
    none : (k : ℕ) → int_lt (pos k) (pos 0) ≡ false
    none k = grind (arith, nat_tests)

    by : (x y : Bool) → x ≡ false → is_eq (if x then Less else (if y then Greater else Equal)) ≡ false → y ≡ true
    by true y e h = absurd (cc)
    by false true e h = refl
    by false false e h = absurd (cc)

not_not : (b : Bool) → not (not b) ≡ true → b ≡ true
not_not true h = refl
not_not false h = h

to_not_not : (b : Bool) → b ≡ true → not (not b) ≡ true
to_not_not b h = ap (λ c. not (not c)) h

some_volts : (uic some : Bool) → (uic || some) ≡ true → not (not uic && not some) ≡ true
some_volts true some h = refl
some_volts false true h = refl
some_volts false false h = absurd (cc)

volts_some : (uic some : Bool) → not (not uic && not some) ≡ true → (uic || some) ≡ true
volts_some true some h = refl
volts_some false true h = refl
volts_some false false h = absurd (cc)

module _ (d : DeckValue) where
  -- what a free node has, one by one
  abbrev has_farads : List ℕ → Bool
  has_farads n = not (int_eq (total_farads d n) (pos 0))

  abbrev has_volts : List ℕ → Bool
  has_volts n = not (not d.uic && is_none (look_up n d.initial))

  abbrev few_farads : List ℕ → Bool
  few_farads n = not (not (int_le (total_farads d n) (pos (10 ^ 12))))

  abbrev few_ends : List ℕ → Bool
  few_ends n = not (not (nat_le (terminals d n) 1000))

  held_parts : (n : List ℕ) → is_held d n ≡ true → (has_farads n ≡ true) × (has_volts n ≡ true) × (few_farads n ≡ true) × (few_ends n ≡ true)
  held_parts n h =
      let a = and_both (int_lt (pos 0) (total_farads d n) && int_le (total_farads d n) (pos (10 ^ 12))) _ h in
      let b = and_both (int_lt (pos 0) (total_farads d n)) _ a.0 in
      let c = and_both (d.uic || is_some (look_up n d.initial)) _ a.1 in
      (ap not (positive_not_zero (total_farads d n) b.0), some_volts d.uic (is_some (look_up n d.initial)) c.0, to_not_not _ b.1, to_not_not _ c.1)

  held_by : (n : List ℕ) → list_all in_limits d.elements ≡ true → (has_farads n && (has_volts n && (few_farads n && few_ends n))) ≡ true → is_held d n ≡ true
  unfolding total_farads
  held_by n all h =
      let a = and_both (has_farads n) _ h in
      let b = and_both (has_volts n) _ a.1 in
      let c = and_both (few_farads n) (few_ends n) b.1 in
      let k = total_is n d.elements 0 all in
      let positive = not_zero_positive (total_farads d n) k.0 k.1 (from_not _ a.0) in
      λ i. (positive i && not_not _ c.0 i) && (volts_some d.uic (is_some (look_up n d.initial)) b.0 i && not_not _ c.1 i)

-- ---- both ways

pub valid_clear : (d : DeckValue) → is_valid d ≡ true → IsClear d
unfolding is_valid uncapped no_initial value_limit many_elements many_nodes node_farads many_terminals nodes
valid_clear d valid =
    let l = limits d valid in
    let w = and_both (has_limits d) _ valid in
    let e = and_both (has_elements d) (has_nodes d) w.1 in
    let a = and_both (differ (map name_of d.elements) && differ (flat_map driven_of d.elements)) _ e.0 in
    let b = and_both (differ (map name_of d.elements)) _ a.0 in
    let g = and_both (list_all is_grounded d.elements) _ a.1 in
    let r = and_both (short_time d.stop && some_grain d.grain) _ w.0 in
    let t = and_both (short_time d.stop) (some_grain d.grain) r.0 in
    let of_free = λ (p : List ℕ → Bool) (each : (n : List ℕ) → is_held d n ≡ true → not (p n) ≡ true). that_none p (free_nodes d) (all_imply (is_held d) (λ n. not (p n)) each (free_nodes d) l.held) in
    record {
      adding = added d [] d.elements (record { names = b.0; driven = b.1; grounded = g.0; parts = l.has_part });
      capped = ap (option_map Uncapped) (of_free (λ n. int_eq (total_farads d n) (pos 0)) (λ n h. (held_parts d n h).0));
      voltages = ap (option_map NoInitial) (of_free (λ n. not d.uic && is_none (look_up n d.initial)) (λ n h. (held_parts d n h).1));
      values = λ i. option_or (limit (t.0 i) Seconds (codes ".tran")) (option_or (limit (t.1 i) Grain (codes ".options"))
          (option_or (none_first (λ (p : List ℕ × part.Part). is_part p.1) (λ p. limited p.0 (part_limit p.1)) (λ p h. limited_none p.0 (part_limit p.1) (part_none p.1 h)) d.parts l.parts i)
          (option_or (none_first (λ (p : List ℕ × ℤ). small_volts p.1) (λ p. limit (small_volts p.1) Volts p.0) (λ p h. limit_none (small_volts p.1) Volts p.0 h) d.initial l.initial i)
          (option_or (none_first in_limits (λ e. limited (name_of e) (element_limit e)) (λ e h. limited_none (name_of e) (element_limit e) (element_none e h)) d.elements l.values i) None))));
      elements = ap (option_map (λ e. Limit Elements (name_of e))) (slice_get_past d.elements 100000 l.few_elements);
      nodes = few_none d.elements [] l.few_nodes;
      farads = ap (option_map (Limit NodeFarads)) (of_free (λ n. not (int_le (total_farads d n) (pos (10 ^ 12)))) (λ n h. (held_parts d n h).2));
      ends = ap (option_map (Limit Terminals)) (of_free (λ n. not (nat_le (terminals d n) 1000)) (λ n h. (held_parts d n h).3));
    }

pub clear_valid : (d : DeckValue) → IsClear d → differ (map (λ p. p.0) d.parts) ≡ true → list_all (λ p. is_part p.1) d.parts ≡ true → differ (map (λ p. p.0) d.initial) ≡ true
    → list_all in_limits d.elements ≡ true → is_valid d ≡ true
unfolding is_valid uncapped no_initial value_limit many_elements many_nodes node_farads many_terminals nodes
clear_valid d clear parts_differ parts initial_differ elements =
    let can = can_add d [] d.elements clear.adding refl refl in
    let stop = none-or (limit (short_time d.stop) Seconds (codes ".tran")) _ clear.values in
    let grain = none-or (limit (some_grain d.grain) Grain (codes ".options")) _ stop.1 in
    let tables = none-or (first_some (λ (p : List ℕ × part.Part). limited p.0 (part_limit p.1)) d.parts) _ grain.1 in
    let voltages = none-or (first_some (λ (p : List ℕ × ℤ). limit (small_volts p.1) Volts p.0) d.initial) _ tables.1 in
    let small = all_none (λ (p : List ℕ × ℤ). small_volts p.1) (λ p. limit (small_volts p.1) Volts p.0) (λ p h. none_limit (small_volts p.1) Volts p.0 h) d.initial voltages.0 in
    let free = free_nodes d in
    let a = none_that (λ n. int_eq (total_farads d n) (pos 0)) free (none_map Uncapped _ clear.capped) in
    let b = none_that (λ n. not d.uic && is_none (look_up n d.initial)) free (none_map NoInitial _ clear.voltages) in
    let c = none_that (λ n. not (int_le (total_farads d n) (pos (10 ^ 12)))) free (none_map (Limit NodeFarads) _ clear.farads) in
    let e = none_that (λ n. not (nat_le (terminals d n) 1000)) free (none_map (Limit Terminals) _ clear.ends) in
    let both = all_both (has_farads d) _ free a (all_both (has_volts d) _ free b (all_both (few_farads d) (few_ends d) free c e)) in
    let held = all_imply _ (is_held d) (λ n h. held_by d n elements h) free both in
    let few = le-leb (length d.elements) 100000 (few_elements d clear.elements) in
    let nodes_few = le-leb (length (nodes d)) 100000 (none_few d.elements [] (omega arith) clear.nodes) in
    λ i. ((none_limit _ Seconds (codes ".tran") stop.0 i && none_limit _ Grain (codes ".options") grain.0 i) && ((parts_differ i && parts i) && (initial_differ i && small i)))
    && (((can.names i && can.driven i) && (can.grounded i && (can.parts i && elements i))) && ((few i && nodes_few i) && held i))

-- both ways at once: the cause is none exactly where the deck is valid
none_clear : (d : DeckValue) → deck_cause d ≡ None → IsClear d
unfolding deck_cause whole_cause
none_clear d none =
    let adding = none-or (adding_cause d [] d.elements) _ none in
    let capped = none-or (uncapped d) _ adding.1 in
    let voltages = none-or (no_initial d) _ capped.1 in
    let values = none-or (value_limit d) _ voltages.1 in
    let elements = none-or (many_elements d) _ values.1 in
    let nodes = none-or (many_nodes d) _ elements.1 in
    let farads = none-or (node_farads d) _ nodes.1 in
    let ends = none-or (many_terminals d) None farads.1 in
    record { adding = adding.0; capped = capped.0; voltages = voltages.0; values = values.0; elements = elements.0; nodes = nodes.0; farads = farads.0; ends = ends.0 }

pub none_valid : (d : DeckValue) → deck_cause d ≡ None → differ (map (λ p. p.0) d.parts) ≡ true → list_all (λ p. is_part p.1) d.parts ≡ true → differ (map (λ p. p.0) d.initial) ≡ true
    → list_all in_limits d.elements ≡ true → is_valid d ≡ true
none_valid d none = clear_valid d (none_clear d none)

pub valid_none : (d : DeckValue) → is_valid d ≡ true → deck_cause d ≡ None
valid_none d valid = clear_none d (valid_clear d valid)
