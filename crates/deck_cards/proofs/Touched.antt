-- A valid deck refuses an edit of a value for what the edit touches alone: the element, and the node at a capacitor's end.
use Rattle.std.proofs.Common.{◌≡◌, ◌∙◌, ℕ, ◌+◌, ◌≤◌, ℤ, pos, ◌+ℤ◌, ◌^◌, int_le, nat_le, Bool, true, false, not, ◌&&◌, ◌||◌, cond, List, [], ◌∷◌, ◌++◌, length, filter, fold, Option, Some, None, is_none, unwrap_or, refl, sym, ap, subst}
use Rattle.std.specs.List.{list_all, list_any, flat_map}
use Rattle.std.specs.Option.{option_or, option_map}
use Rattle.std.specs.Ordering.{int_eq}
use Rattle.std.specs.Str.{bytes_eq}
use Rattle.std.proofs.lemmas.Bool.{false≢true}
use Rattle.std.proofs.lemmas.Option.{none-some, slice_get_past}
use Rattle.semantics.specs.declared.element.Element.{Element}
use Rattle.semantics.specs.declared.element.Element.TheVariants.{Resistor, Capacitor, Source, Mos}
use Rattle.semantics.specs.Deck.{DeckValue, name_of, first_some, look_up, given, nodes, free_nodes, driver, drives, ends_of, with_node, total_farads, farads_at, terminals, terminals_at}
use Rattle.semantics.specs.Valid.{is_valid, small_volts, some_ohms, has_part}
use Rattle.semantics.proofs.Limits.{limits}
use Rattle.deck_cards.specs.declared.edit_refusal.EditRefusal.{EditRefusal}
use Rattle.deck_cards.specs.declared.edit_refusal.EditRefusal.TheVariants.{NoSuchName, WrongKind, NoSuchModel, Uncapped, NoInitial, Limit}
use Rattle.deck_cards.specs.declared.which.Which.TheVariants.{Ohms, Volts, Elements, NodeFarads, Terminals}
use Rattle.deck_cards.specs.declared.edit.Edit.{Edit}
use Rattle.deck_cards.specs.declared.edit.Edit.TheVariants.{SetR, SetC, SetWave, SetModel, SetIc, Add, Remove}
use Rattle.deck_cards.specs.Settled.{put}
use Rattle.deck_cards.specs.Causes.{when, first_that, part_name, limit, limited, point_limit, uncapped, no_initial, many_elements, many_nodes, node_farads, many_terminals, whole_with}
use Rattle.deck_cards.specs.Edits.{edit_cause, place_cause, set_cause, edit_limit, edited, named, set_named, with_ohms, with_farads, with_wave, with_part}
use Rattle.deck_cards.proofs.Counting.{few_none}
use Rattle.deck_cards.proofs.Firsts.{first_some-cons, is_none-or, none_that, that_none, none_map, or_none}
use Rattle.deck_cards.proofs.Known.{drives_by}
use Rattle.deck_cards.proofs.Named.{from_not}
use Rattle.deck_cards.proofs.Standing.{Stands, found, some_same, elements_to}
use Rattle.deck_cards.proofs.Swapped.{length_swap, flat_swap, fold_swap, none_swap}
use Rattle.deck_cards.proofs.Accepted.{kind_cause, found_cause, fits}
use Rattle.deck_cards.proofs.Validity.{IsClear, all_imply, valid_clear}

-- ---- what an edit of a value leaves

pub record SameNodes (d new : DeckValue) : Type 0 where
  pub count : length new.elements ≡ length d.elements
  pub names : nodes new ≡ nodes d
  pub drivers : (n : List ℕ) → is_none (driver new n) ≡ is_none (driver d n)
  pub ends : (n : List ℕ) → terminals new n ≡ terminals d n
  pub voltages : (n : List ℕ) → (not d.uic && is_none (look_up n d.initial)) ≡ false → (not new.uic && is_none (look_up n new.initial)) ≡ false

pub free_same : (d new : DeckValue) → SameNodes d new → free_nodes new ≡ free_nodes d
unfolding free_nodes
free_same d new s = λ i. filter (λ n. s.drivers n i) (s.names i)

no_initial_still : (d new : DeckValue) → no_initial d ≡ None → SameNodes d new → no_initial new ≡ None
unfolding no_initial
no_initial_still d new none s =
    let old = none_that (λ n. not d.uic && is_none (look_up n d.initial)) (free_nodes d) (none_map NoInitial _ none) in
    let now = all_imply (λ n. not (not d.uic && is_none (look_up n d.initial))) (λ n. not (not new.uic && is_none (look_up n new.initial))) (λ n h. ap not (s.voltages n (from_not _ h))) (free_nodes d) old in
    ap (option_map NoInitial) (ap (first_that (λ n. not new.uic && is_none (look_up n new.initial))) (free_same d new s)
    ∙ that_none (λ n. not new.uic && is_none (look_up n new.initial)) (free_nodes d) now)

few_elements_still : (d new : DeckValue) → is_valid d ≡ true → SameNodes d new → many_elements new ≡ None
unfolding many_elements
few_elements_still d new valid s =
    ap (option_map (λ e. Limit Elements (name_of e))) (slice_get_past new.elements 100000 (subst (λ k. k ≤ 100000) (sym s.count) (limits d valid).few_elements))

few_nodes_still : (d new : DeckValue) → is_valid d ≡ true → SameNodes d new → many_nodes new ≡ None
unfolding many_nodes nodes
few_nodes_still d new valid s = few_none new.elements [] (subst (λ ns. length ns ≤ 100000) (sym s.names) (limits d valid).few_nodes)

few_terminals_still : (d new : DeckValue) → many_terminals d ≡ None → SameNodes d new → many_terminals new ≡ None
unfolding many_terminals
few_terminals_still d new none s = (λ i. option_map (Limit Terminals) (first_that (λ n. not (nat_le (s.ends n i) 1000)) (free_same d new s i))) ∙ none

-- then only capacitances and the value of the edit can be a cause
pub left : (d new : DeckValue) (value capped farads : Option EditRefusal) → is_valid d ≡ true → SameNodes d new → uncapped new ≡ capped → node_farads new ≡ farads
    → whole_with value new ≡ option_or capped (option_or value farads)
left d new value capped farads valid s is_capped is_farads =
    let c = valid_clear d valid in
    (λ i. option_or (is_capped i) (option_or (no_initial_still d new c.voltages s i) (option_or value (option_or (few_elements_still d new valid s i)
    (option_or (few_nodes_still d new valid s i) (option_or (is_farads i) (option_or (few_terminals_still d new c.ends s i) None)))))))
    ∙ ap (λ o. option_or capped (option_or value o)) (or_none farads)

capped_still : (d new : DeckValue) → uncapped d ≡ None → SameNodes d new → ((n : List ℕ) → total_farads new n ≡ total_farads d n) → uncapped new ≡ None
unfolding uncapped
capped_still d new none s same = (λ i. option_map Uncapped (first_that (λ n. int_eq (same n i) (pos 0)) (free_same d new s i))) ∙ none

farads_still : (d new : DeckValue) → node_farads d ≡ None → SameNodes d new → ((n : List ℕ) → total_farads new n ≡ total_farads d n) → node_farads new ≡ None
unfolding node_farads
farads_still d new none s same = (λ i. option_map (Limit NodeFarads) (first_that (λ n. not (int_le (same n i) (pos (10 ^ 12)))) (free_same d new s i))) ∙ none

-- and where the capacitances are as they were, that value alone
pub value_alone : (d new : DeckValue) (value : Option EditRefusal) → is_valid d ≡ true → SameNodes d new → ((n : List ℕ) → total_farads new n ≡ total_farads d n) → whole_with value new ≡ value
value_alone d new value valid s same =
    let c = valid_clear d valid in
    left d new value None None valid s (capped_still d new c.capped s same) (farads_still d new c.farads s same) ∙ or_none value

-- ---- an element in the place of another

-- two elements with the same ends, of which both drive a node or none, with as many ends that carry current
pub record Alike (x y : Element) : Type 0 where
  pub ends : ends_of x ≡ ends_of y
  pub drives : (n : List ℕ) → is_none (drives n x) ≡ is_none (drives n y)
  pub terminals : (n : List ℕ) → terminals_at n x ≡ terminals_at n y

pub swapped : (d : DeckValue) (before after : List Element) (x y : Element) → d.elements ≡ before ++ (x ∷ after) → Alike x y → SameNodes d (elements_to d (before ++ (y ∷ after)))
unfolding nodes driver terminals
swapped d before after x y was a = record {
  count = sym (length_swap x y before after) ∙ ap length (sym was);
  names = ap (fold with_node []) (sym (flat_swap ends_of x y before after a.ends) ∙ ap (flat_map ends_of) (sym was));
  drivers = λ n. sym (none_swap (drives n) x y before after (a.drives n)) ∙ ap (λ es. is_none (first_some (drives n) es)) (sym was);
  ends = λ n. sym (fold_swap (λ total e. total + terminals_at n e) x y before after (λ t. ap (λ k. t + k) (a.terminals n)) 0) ∙ ap (fold (λ total e. total + terminals_at n e) 0) (sym was);
  voltages = λ n h. h;
}

pub same_farads : (d : DeckValue) (before after : List Element) (x y : Element) → d.elements ≡ before ++ (x ∷ after) → (n : List ℕ) → farads_at n x ≡ farads_at n y
    → total_farads (elements_to d (before ++ (y ∷ after))) n ≡ total_farads d n
unfolding total_farads
same_farads d before after x y was n same =
    sym (fold_swap (λ total e. total +ℤ farads_at n e) x y before after (λ t. ap (λ z. t +ℤ z) same) (pos 0)) ∙ ap (fold (λ total e. total +ℤ farads_at n e) (pos 0)) (sym was)

-- ---- one edit of a value

-- the element that is set is found, and another of its kind takes its place
pub record Sets (d : DeckValue) (n : List ℕ) (f : Element → Option Element) : Type 0 where
  pub old : Element
  pub new : Element
  pub before : List Element
  pub after : List Element
  pub was : d.elements ≡ before ++ (old ∷ after)
  pub set : f old ≡ Some new
  pub made : set_named n f d.elements ≡ before ++ (new ∷ after)

pub sets : (d : DeckValue) (n : List ℕ) (f : Element → Option Element) → is_valid d ≡ true → set_cause d n f ≡ None → Sets d n f
sets d n f valid free = by (named n d.elements) refl free
  where
    kind : (x : Element) (o : Option Element) → named n d.elements ≡ Some x → f x ≡ o → kind_cause d n o ≡ None → Sets d n f
    kind x None at is bad = absurd (none-some (WrongKind n) (sym bad))
    kind x (Some y) at is ok =
        let s = found n d.elements x (fits d valid).names at in
        record { old = x; new = y; before = s.before; after = s.after; was = s.was; set = is; made = s.set f ∙ ap (λ o. s.before ++ (unwrap_or o x ∷ s.after)) is }

    by : (o : Option Element) → named n d.elements ≡ o → found_cause d n f o ≡ None → Sets d n f
    by None is bad = absurd (none-some (NoSuchName n) (sym bad))
    by (Some x) is ok = kind x (f x) is refl ok

-- two elements that say the same of every node
abbrev pub SameAtNodes : Element → Element → Type 0
SameAtNodes x y = Alike x y × ((n : List ℕ) → farads_at n x ≡ farads_at n y)

-- an edit that changes no capacitance
pub set_alone : (d : DeckValue) (n : List ℕ) (f : Element → Option Element) (value : Option EditRefusal) → is_valid d ≡ true
    → ((x y : Element) → f x ≡ Some y → SameAtNodes x y)
    → option_or (set_cause d n f) (whole_with value (elements_to d (set_named n f d.elements))) ≡ option_or (set_cause d n f) value
set_alone d n f value valid same = by (set_cause d n f) refl
  where
    by : (o : Option EditRefusal) → set_cause d n f ≡ o → option_or o (whole_with value (elements_to d (set_named n f d.elements))) ≡ option_or o value
    by (Some cause) is = refl
    by None is =
        let s = sets d n f valid is in
        let a = same s.old s.new s.set in
        subst (λ es. whole_with value (elements_to d es) ≡ value) (sym s.made)
        (value_alone d (elements_to d (s.before ++ (s.new ∷ s.after))) value valid (swapped d s.before s.after s.old s.new s.was a.0) (λ m. same_farads d s.before s.after s.old s.new s.was m (a.1 m)))

pub same_ohms : (ohms : ℤ) (x y : Element) → with_ohms ohms x ≡ Some y → SameAtNodes x y
same_ohms ohms (Resistor name first second old) y is =
    subst (SameAtNodes (Resistor name first second old)) (some_same _ y is) (record { ends = refl; drives = λ n. refl; terminals = λ n. refl }, λ n. refl)
same_ohms ohms (Capacitor name plus minus farads) y is = absurd (none-some y is)
same_ohms ohms (Source name plus minus wave) y is = absurd (none-some y is)
same_ohms ohms (Mos name drain gate source bulk part len width) y is = absurd (none-some y is)

pub same_wave : (wave : List (ℕ × ℤ)) (x y : Element) → with_wave wave x ≡ Some y → SameAtNodes x y
same_wave wave (Source name plus minus old) y is =
    subst (SameAtNodes (Source name plus minus old)) (some_same _ y is) (record { ends = refl; drives = λ n. by (bytes_eq n plus) (bytes_eq n minus); terminals = λ n. refl }, λ n. refl)
  where
    by : (a b : Bool) → is_none (drives_by a b old) ≡ is_none (drives_by a b wave)
    by true b = refl
    by false true = refl
    by false false = refl
same_wave wave (Resistor name first second ohms) y is = absurd (none-some y is)
same_wave wave (Capacitor name plus minus farads) y is = absurd (none-some y is)
same_wave wave (Mos name drain gate source bulk part len width) y is = absurd (none-some y is)

pub same_part : (part : List ℕ) (x y : Element) → with_part part x ≡ Some y → SameAtNodes x y
same_part part (Mos name drain gate source bulk old len width) y is =
    subst (SameAtNodes (Mos name drain gate source bulk old len width)) (some_same _ y is) (record { ends = refl; drives = λ n. refl; terminals = λ n. refl }, λ n. refl)
same_part part (Resistor name first second ohms) y is = absurd (none-some y is)
same_part part (Capacitor name plus minus farads) y is = absurd (none-some y is)
same_part part (Source name plus minus wave) y is = absurd (none-some y is)

pub set_ohms : (d : DeckValue) (name : List ℕ) (ohms : ℤ) → is_valid d ≡ true
    → edit_cause d (SetR name ohms) ≡ option_or (set_cause d name (with_ohms ohms)) (edit_limit (SetR name ohms))
unfolding edit_cause place_cause edited
set_ohms d name ohms valid = set_alone d name (with_ohms ohms) (edit_limit (SetR name ohms)) valid (same_ohms ohms)

pub set_wave : (d : DeckValue) (name : List ℕ) (wave : List (ℕ × ℤ)) → is_valid d ≡ true
    → edit_cause d (SetWave name wave) ≡ option_or (set_cause d name (with_wave wave)) (edit_limit (SetWave name wave))
unfolding edit_cause place_cause edited
set_wave d name wave valid = set_alone d name (with_wave wave) (edit_limit (SetWave name wave)) valid (same_wave wave)

pub set_part : (d : DeckValue) (name part : List ℕ) → is_valid d ≡ true → edit_cause d (SetModel name part) ≡ set_cause d name (with_part part)
unfolding edit_cause place_cause edited edit_limit
set_part d name part valid = set_alone d name (with_part part) None valid (same_part part) ∙ or_none (set_cause d name (with_part part))

-- ---- an initial voltage

none_given : (n : List ℕ) (q : List ℕ × ℤ) (qs : List (List ℕ × ℤ)) → is_none (look_up n (q ∷ qs)) ≡ (is_none (given n q) && is_none (look_up n qs))
none_given n q qs = ap is_none (first_some-cons (given n) q qs) ∙ is_none-or (given n q) (look_up n qs)

-- a name that has a voltage keeps one
still_given : (n : List ℕ) (ps : List (List ℕ × ℤ)) (p : List ℕ × ℤ) → is_none (look_up n ps) ≡ false → is_none (look_up n (put ps p)) ≡ false
still_given n [] p none = absurd (false≢true (sym none))
still_given n (q ∷ qs) p none = by (bytes_eq p.0 q.0) (sym (none_given n q qs) ∙ none) (still_given n qs p)
  where
    same : (b : Bool) → is_none (when b q.1) ≡ is_none (when b p.1)
    same true = refl
    same false = refl

    later : (a b c : Bool) → (a && b) ≡ false → (b ≡ false → c ≡ false) → (a && c) ≡ false
    later true b c h rest = rest h
    later false b c h rest = refl

    by : (b : Bool) → (is_none (given n q) && is_none (look_up n qs)) ≡ false → (is_none (look_up n qs) ≡ false → is_none (look_up n (put qs p)) ≡ false)
        → is_none (look_up n (cond b ((q.0, p.1) ∷ qs) (q ∷ put qs p))) ≡ false
    by true h rest = none_given n (q.0, p.1) qs ∙ ((λ i. sym (same (bytes_eq n q.0)) i && is_none (look_up n qs)) ∙ h)
    by false h rest = none_given n q (put qs p) ∙ later (is_none (given n q)) (is_none (look_up n qs)) (is_none (look_up n (put qs p))) h rest

pub set_initial : (d : DeckValue) (node : List ℕ) (volts : ℤ) → is_valid d ≡ true → edit_cause d (SetIc node volts) ≡ edit_limit (SetIc node volts)
unfolding edit_cause place_cause edited nodes driver terminals total_farads
set_initial d node volts valid = value_alone d (record d { initial = put d.initial (node, volts) }) (edit_limit (SetIc node volts)) valid (record {
  count = refl;
  names = refl;
  drivers = λ n. refl;
  ends = λ n. refl;
  voltages = λ n h. by d.uic (is_none (look_up n d.initial)) (is_none (look_up n (put d.initial (node, volts)))) h (still_given n d.initial (node, volts));
}) (λ n. refl)
  where
    by : (uic a b : Bool) → (not uic && a) ≡ false → (a ≡ false → b ≡ false) → (not uic && b) ≡ false
    by true a b h rest = refl
    by false a b h rest = rest h
