-- Elements can be added in turn exactly where their names and the nodes that they drive differ, and each stands where it may.
use Rattle.std.proofs.Common.{◌≡◌, ◌∙◌, ℕ, Bool, true, false, not, ◌&&◌, ◌||◌, if◌then◌else◌, List, [], ◌∷◌, ◌++◌, map, Option, None, refl, sym, ap, subst}
use Rattle.std.specs.List.{flat_map, list_any, list_all}
use Rattle.std.specs.Option.{option_map, option_or}
use Rattle.std.specs.Str.{bytes_eq}
use Rattle.std.proofs.lemmas.List.{append_assoc, append-nil, map-append}
use Rattle.std.proofs.lemmas.List.Concat.{flat_map-append}
use Rattle.std.proofs.lemmas.List.Folds.{list_any-append, list_all-append}
use Rattle.semantics.specs.declared.element.Element.{Element}
use Rattle.semantics.specs.declared.element.Element.TheVariants.{Resistor, Capacitor, Source, Mos}
use Rattle.semantics.specs.Ground.{is_ground}
use Rattle.semantics.specs.Deck.{DeckValue, name_of}
use Rattle.semantics.specs.Valid.{differ, driven_of, is_grounded, has_part}
use Rattle.deck_cards.specs.declared.edit_refusal.EditRefusal.TheVariants.{DuplicateName, NoSuchModel, NotGrounded, TwoDrivers}
use Rattle.deck_cards.specs.Causes.{when, first_that, is_named, is_driven, part_name, add_cause, adding_cause}
use Rattle.deck_cards.proofs.Differ.{differ-push}
use Rattle.deck_cards.proofs.Firsts.{none-or, none_that, that_none, none_when, when_none, none_map}
use Rattle.deck_cards.proofs.Named.{and_both, or_both, from_not, name_turned}
use Rattle.deck_cards.proofs.Once.{any_map}

-- ---- names that differ

-- none of these is among those
abbrev pub AreNew : List (List ℕ) → List (List ℕ) → Type 0
AreNew ns ks = list_all (λ n. not (list_any (bytes_eq n) ns)) ks ≡ true

apart_from : (m : List ℕ) (ns ks : List (List ℕ)) → list_any (bytes_eq m) ks ≡ false → AreNew ns ks → AreNew (m ∷ ns) ks
apart_from m ns [] none new = refl
apart_from m ns (k ∷ ks) none new =
    let p = or_both (bytes_eq m k) (list_any (bytes_eq m) ks) none in
    let q = and_both (not (list_any (bytes_eq k) ns)) _ new in
    (λ i. not ((name_turned k m ∙ p.0) i || list_any (bytes_eq k) ns) && apart_from m ns ks p.1 q.1 i) ∙ ap (λ b. b && true) q.0

-- names behind others are new where all differ
apart : (ns ks : List (List ℕ)) → differ (ns ++ ks) ≡ true → AreNew ns ks
apart [] ks h = none ks
  where
    none : (ks : List (List ℕ)) → AreNew [] ks
    none [] = refl
    none (k ∷ ks) = none ks
apart (m ∷ ns) ks h =
    let p = and_both (not (list_any (bytes_eq m) (ns ++ ks))) (differ (ns ++ ks)) h in
    let q = or_both (list_any (bytes_eq m) ns) (list_any (bytes_eq m) ks) (sym (list_any-append (bytes_eq m) ns ks) ∙ from_not _ p.0) in
    apart_from m ns ks q.1 (apart ns ks p.1)

-- a name that is new behind names that differ
pushed : (ns : List (List ℕ)) (n : List ℕ) → differ ns ≡ true → list_any (bytes_eq n) ns ≡ false → differ (ns ++ n ∷ []) ≡ true
pushed ns n h new = differ-push ns n ∙ (λ i. h i && not (new i))

-- ---- what an element drives

-- a source drives one node, and no other element any
data Drives (ks : List (List ℕ)) : Type 0 where
  none : ks ≡ [] → Drives ks
  one : (k : List ℕ) → ks ≡ k ∷ [] → Drives ks

drives_one : (e : Element) → is_grounded e ≡ true → Drives (driven_of e)
drives_one (Resistor name first second ohms) h = none refl
drives_one (Capacitor name plus minus farads) h = none refl
drives_one (Mos name drain gate source bulk part len width) h = none refl
drives_one (Source name plus minus wave) h = by (is_ground plus) (is_ground minus) h
  where
    by : (a b : Bool) → (if a then not b else b) ≡ true → Drives (if not a then plus ∷ (if not b then minus ∷ [] else []) else (if not b then minus ∷ [] else []))
    by true true h = absurd (cc)
    by true false h = one minus refl
    by false true h = one plus refl
    by false false h = absurd (cc)

-- what it drives is new behind nodes that differ
driven_more : (ns ks : List (List ℕ)) → Drives ks → differ ns ≡ true → AreNew ns ks → differ (ns ++ ks) ≡ true
driven_more ns ks (none is) h new = ap (λ l. differ (ns ++ l)) is ∙ ap differ (append-nil ns) ∙ h
driven_more ns ks (one k is) h new =
    let first = (and_both (not (list_any (bytes_eq k) ns)) true (subst (AreNew ns) is new)).0 in
    ap (λ l. differ (ns ++ l)) is ∙ pushed ns k h (from_not _ first)

-- ---- exactly where

names_more : (before : List Element) (e : Element) (es : List Element) → map name_of ((before ++ e ∷ []) ++ es) ≡ map name_of (before ++ e ∷ es)
names_more before e es = ap (map name_of) (append_assoc before (e ∷ []) es)

nodes_more : (before : List Element) (e : Element) (es : List Element) → flat_map driven_of ((before ++ e ∷ []) ++ es) ≡ flat_map driven_of (before ++ e ∷ es)
nodes_more before e es = ap (flat_map driven_of) (append_assoc before (e ∷ []) es)

-- elements of a list and their place behind others
pub record CanAdd (d : DeckValue) (before es : List Element) : Type 0 where
  pub names : differ (map name_of (before ++ es)) ≡ true
  pub driven : differ (flat_map driven_of (before ++ es)) ≡ true
  pub grounded : list_all is_grounded es ≡ true
  pub parts : list_all (has_part d) es ≡ true

named_is : (before : List Element) (n : List ℕ) → list_any (bytes_eq n) (map name_of before) ≡ is_named before n
named_is before n = any_map (bytes_eq n) name_of before

pub can_add : (d : DeckValue) (before es : List Element) → adding_cause d before es ≡ None → differ (map name_of before) ≡ true → differ (flat_map driven_of before) ≡ true → CanAdd d before es
unfolding adding_cause add_cause
can_add d before [] h names driven = record {
  names = ap (λ l. differ (map name_of l)) (append-nil before) ∙ names;
  driven = ap (λ l. differ (flat_map driven_of l)) (append-nil before) ∙ driven;
  grounded = refl;
  parts = refl;
}
can_add d before (e ∷ es) h names driven =
    let split = none-or (add_cause d before e) _ h in
    let a = none-or (when (is_named before (name_of e)) (DuplicateName (name_of e))) _ split.0 in
    let b = none-or (when (not (has_part d e)) (NoSuchModel (part_name e))) _ a.1 in
    let c = none-or (when (not (is_grounded e)) (NotGrounded (name_of e))) _ b.1 in
    let o = none-or (option_map TwoDrivers (first_that (is_driven before) (driven_of e))) None c.1 in
    let new : list_any (bytes_eq (name_of e)) (map name_of before) ≡ false = named_is before (name_of e) ∙ none_when _ _ a.0 in
    let part : has_part d e ≡ true = from_false (has_part d e) (none_when _ _ b.0) in
    let grounded : is_grounded e ≡ true = from_false (is_grounded e) (none_when _ _ c.0) in
    let fresh : AreNew (flat_map driven_of before) (driven_of e) = none_that (is_driven before) (driven_of e) (none_map TwoDrivers _ o.0) in
    let names_on : differ (map name_of (before ++ e ∷ [])) ≡ true = ap differ (map-append name_of before (e ∷ [])) ∙ pushed (map name_of before) (name_of e) names new in
    let driven_on : differ (flat_map driven_of (before ++ e ∷ [])) ≡ true =
    ap differ (flat_map-append driven_of before (e ∷ []) ∙ ap (λ l. flat_map driven_of before ++ l) (append-nil (driven_of e)))
    ∙ driven_more (flat_map driven_of before) (driven_of e) (drives_one e grounded) driven fresh in
    let rest = can_add d (before ++ e ∷ []) es split.1 names_on driven_on in
    record {
      names = ap differ (sym (names_more before e es)) ∙ rest.names;
      driven = ap differ (sym (nodes_more before e es)) ∙ rest.driven;
      grounded = λ i. grounded i && rest.grounded i;
      parts = λ i. part i && rest.parts i;
    }
  where
    from_false : (b : Bool) → not b ≡ false → b ≡ true
    from_false true h = refl
    from_false false h = absurd (cc)

none_of : {A : Type 0} {a b c o r : Option A} → a ≡ None → b ≡ None → c ≡ None → o ≡ None → r ≡ None → option_or (option_or a (option_or b (option_or c (option_or o None)))) r ≡ None
none_of ha hb hc ho hr = λ i. option_or (option_or (ha i) (option_or (hb i) (option_or (hc i) (option_or (ho i) None)))) (hr i)

pub added : (d : DeckValue) (before es : List Element) → CanAdd d before es → adding_cause d before es ≡ None
unfolding adding_cause add_cause
added d before [] can = refl
added d before (e ∷ es) can =
    let new = apart (map name_of before) (name_of e ∷ map name_of es) (ap differ (sym (map-append name_of before (e ∷ es))) ∙ can.names) in
    let named : is_named before (name_of e) ≡ false = sym (named_is before (name_of e)) ∙ from_not _ (and_both (not (list_any (bytes_eq (name_of e)) (map name_of before))) _ new).0 in
    let fresh = apart (flat_map driven_of before) (driven_of e ++ flat_map driven_of es) (ap differ (sym (flat_map-append driven_of before (e ∷ es))) ∙ can.driven) in
    let mine = (and_both (list_all (λ n. not (is_driven before n)) (driven_of e)) _ (sym (list_all-append (λ n. not (is_driven before n)) (driven_of e) (flat_map driven_of es)) ∙ fresh)).0 in
    let part = and_both (has_part d e) (list_all (has_part d) es) can.parts in
    let grounded = and_both (is_grounded e) (list_all is_grounded es) can.grounded in
    let rest = added d (before ++ e ∷ []) es (record {
      names = ap differ (names_more before e es) ∙ can.names;
      driven = ap differ (nodes_more before e es) ∙ can.driven;
      grounded = grounded.1;
      parts = part.1;
    }) in
    none_of (when_none _ (DuplicateName (name_of e)) named) (when_none _ (NoSuchModel (part_name e)) (ap not part.0)) (when_none _ (NotGrounded (name_of e)) (ap not grounded.0))
    (ap (option_map TwoDrivers) (that_none (is_driven before) (driven_of e) mine)) rest
