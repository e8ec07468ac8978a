-- What each card without a fault keeps of a deck: names differ, no node is driven twice, and each value is in its limit.
use Rattle.std.proofs.Common.{◌≡◌, ℕ, ◌<◌, ◌≤◌, ℤ, pos, Bool, true, false, not, ◌&&◌, ◌||◌, if◌then◌else◌, List, [], ◌∷◌, ◌++◌, length, map, fold, Option, Some, None, is_some, Result, Ok, Err, refl, sym, ◌∙◌, ap, subst, arith, append-nil, length-append}
use Rattle.std.specs.Prelude.{nat_lt, nat_le, unsigned_abs, int_le}
use Rattle.std.specs.Option.{option_or}
use Rattle.std.specs.List.{list_all, list_any, flat_map}
use Rattle.std.specs.Str.{bytes_eq}
use Rattle.std.proofs.lemmas.Bool.{and_parts, and_from, leb-false, ltb-false}
use Rattle.std.proofs.lemmas.List.{map-append, length-map}
use Rattle.std.proofs.lemmas.Grind.{flat_map-append}
use Rattle.semantics.specs.declared.element.Element.{Element}
use Rattle.semantics.specs.declared.element.Element.TheVariants.{Resistor, Capacitor, Source, Mos}
use Rattle.semantics.specs.Ground.{is_ground}
use Rattle.semantics.specs.Part.{Part, Listed}
use Rattle.semantics.specs.Deck.{name_of, look_up, first_some}
use Rattle.semantics.specs.Valid.{differ, driven_of, is_grounded, small_volts, some_grain, short_time}
use Rattle.deck_cards.specs.declared.which.Which.{Which}
use Rattle.deck_cards.specs.declared.which.Which.TheVariants.{Elements, Nodes, Seconds, Grain, Volts}
use Rattle.deck_cards.specs.declared.edit_refusal.EditRefusal.{EditRefusal}
use Rattle.deck_cards.specs.Causes.{first_that, is_named, is_driven, when, limited, part_limit, element_limit}
use Rattle.deck_cards.specs.Settled.{put}
use Rattle.deck_cards.proofs.Differ.{differ-push}
use Rattle.deck_cards.proofs.Firsts.{first_some-push}
use Rattle.deck_cards.proofs.Named.{same_name, name_turned, or_both, from_not}
use Rattle.deck_cards.proofs.Once.{any_map, put_once, fold_put_once}
use Rattle.deck_reader.specs.declared.why.DeckWhy.{DeckWhy}
use Rattle.deck_reader.specs.declared.why.DeckWhy.TheVariants.{DuplicateName, DuplicateModel, SecondTran, NotGrounded, TwoDrivers, Limit}
use Rattle.deck_reader.specs.Words.{Word}
use Rattle.deck_reader.specs.Tables.{table_of}
use Rattle.deck_reader.specs.Models.{model_of}
use Rattle.deck_reader.specs.Dots.{initial, options, tran}
use Rattle.deck_reader.specs.Circuit.{Circuit, elements_of, nodes_of, element_fault, with_placed, with_element}
use Rattle.deck_reader.specs.Told.{with_part, with_listed, with_table, with_model, voltage_limit, with_initial, is_grain, grain_after, with_options, is_stop, span_after, with_tran}
use Rattle.deck_reader.proofs.InversionLemmas.{steps, passes, holds, faultless, ok_same, all_push}
use Rattle.deck_reader.proofs.CircuitLemmas.{IsClear, is_clear}
use Rattle.deck_reader.proofs.IndexLemmas.{look_up-names}
use Rattle.deck_reader.proofs.ModelLemmas.{model_within}

-- ---- elements

-- no value of these elements is outside its limit
abbrev pub AreWithin : List Element → Type 0
AreWithin elements = first_some (λ e. limited (name_of e) (element_limit e)) elements ≡ None

pub record IsFit (circuit : Circuit) : Type 0 where
  pub names : differ (map name_of (elements_of circuit)) ≡ true
  pub driven : differ (flat_map driven_of (elements_of circuit)) ≡ true
  pub grounded : list_all is_grounded (elements_of circuit) ≡ true
  pub limits : AreWithin (elements_of circuit)
  pub few : length (elements_of circuit) ≤ 100000
  pub few_nodes : length (nodes_of circuit) ≤ 100000

push_differs : (ns : List Word) (n : Word) → differ ns ≡ true → list_any (bytes_eq n) ns ≡ false → differ (ns ++ n ∷ []) ≡ true
push_differs ns n apart new = differ-push ns n ∙ (λ i. apart i && not (new i))

not_driven : (ns : List Word) (n : Word) → first_that (λ m. list_any (bytes_eq m) ns) (n ∷ []) ≡ None → list_any (bytes_eq n) ns ≡ false
not_driven ns n free = by (list_any (bytes_eq n) ns) free
  where
    by : (b : Bool) → ◌≡◌ {A = Option Word} (elim (when b n) [ None ↦ None | Some y ↦ Some y ]) None → b ≡ false
    by true h = absurd (cc)
    by false h = refl

-- the one node that a grounded element drives is new
drives_apart : (ns : List Word) (e : Element) → differ ns ≡ true → is_grounded e ≡ true → first_that (λ m. list_any (bytes_eq m) ns) (driven_of e) ≡ None
    → differ (ns ++ driven_of e) ≡ true
drives_apart ns (Resistor name first second ohms) apart grounded free = ap differ (append-nil ns) ∙ apart
drives_apart ns (Capacitor name plus minus farads) apart grounded free = ap differ (append-nil ns) ∙ apart
drives_apart ns (Mos name drain gate source bulk part len width) apart grounded free = ap differ (append-nil ns) ∙ apart
drives_apart ns (Source name plus minus wave) apart grounded free = by (is_ground plus) (is_ground minus) grounded free
  where
    by : (a b : Bool) → (if a then not b else b) ≡ true
        → first_that (λ m. list_any (bytes_eq m) ns) (if not a then plus ∷ (if not b then minus ∷ [] else []) else (if not b then minus ∷ [] else [])) ≡ None
        → differ (ns ++ (if not a then plus ∷ (if not b then minus ∷ [] else []) else (if not b then minus ∷ [] else []))) ≡ true
    by true true g f = absurd (cc)
    by true false g f = push_differs ns minus apart (not_driven ns minus f)
    by false true g f = push_differs ns plus apart (not_driven ns plus f)
    by false false g f = absurd (cc)

fit_more : (circuit : Circuit) (line : ℕ) (e : Element) → IsFit circuit → IsClear circuit e → element_limit e ≡ None → length circuit < 100000
    → length (nodes_of (circuit ++ (line, e) ∷ [])) ≤ 100000 → IsFit (circuit ++ (line, e) ∷ [])
fit_more circuit line e fit clear within room few =
    let es = elements_of circuit in
    let limit : Element → Option EditRefusal = λ x. limited (name_of x) (element_limit x) in
    let more : elements_of (circuit ++ (line, e) ∷ []) ≡ es ++ e ∷ [] = map-append (λ (at : ℕ × Element). at.1) circuit ((line, e) ∷ []) in
    let new : list_any (bytes_eq (name_of e)) (map name_of es) ≡ false = any_map (bytes_eq (name_of e)) name_of es ∙ clear.named in
    record {
      names = ap (λ l. differ (map name_of l)) more ∙ ap differ (map-append name_of es (e ∷ [])) ∙ push_differs (map name_of es) (name_of e) fit.names new;
      driven =
          ap (λ l. differ (flat_map driven_of l)) more
          ∙ ap differ (flat_map-append driven_of es (e ∷ []) ∙ ap (λ l. flat_map driven_of es ++ l) (append-nil (driven_of e)))
          ∙ drives_apart (flat_map driven_of es) e fit.driven clear.grounded clear.free;
      grounded = ap (list_all is_grounded) more ∙ all_push is_grounded es e fit.grounded clear.grounded;
      limits = ap (first_some limit) more ∙ first_some-push limit es e ∙ (λ i. option_or (fit.limits i) (limited (name_of e) (within i)));
      few = omega (arith, ap length more, length-append es (e ∷ []), length-map {B = Element} circuit (λ (at : ℕ × Element). at.1));
      few_nodes = few;
    }

-- where no fault is, no value is outside its limit, and there is room for one more
within_limits : (named grounded : Bool) (driven : Option Word) (x y : DeckWhy) (rest : Option DeckWhy)
    → (if named then Some x else if not grounded then Some y else elim driven [ Some node ↦ Some (TwoDrivers node) | None ↦ rest ]) ≡ None → rest ≡ None
within_limits true grounded driven x y rest is = absurd (cc)
within_limits false false driven x y rest is = absurd (cc)
within_limits false true (Some node) x y rest is = absurd (cc)
within_limits false true None x y rest is = is

roomy : (limit : Option Which) (full : Bool) (name : Word)
    → ◌≡◌ {A = Option DeckWhy} (elim limit [ Some which ↦ Some (Limit which name) | None ↦ if full then Some (Limit Elements name) else None ]) None → (limit ≡ None) × (full ≡ false)
roomy (Some which) full name h = absurd (cc)
roomy None true name h = absurd (cc)
roomy None false name h = (refl, refl)

pub circuit_kept : (circuit : Circuit) (line : ℕ) (e : Element) (next : Circuit) → IsFit circuit → with_element circuit line e ≡ Ok next → IsFit next
unfolding with_element with_placed element_fault
circuit_kept circuit line e next fit is =
    let fault = faultless (element_fault circuit e) (with_placed circuit line e) next is in
    let clear = is_clear circuit e fault.0 in
    let more = circuit ++ (line, e) ∷ [] in
    let placed = passes (nat_lt 100000 (length (nodes_of more))) (Limit Nodes (name_of e)) (Ok more) next fault.1 in
    let rest = within_limits (is_named (elements_of circuit) (name_of e)) (is_grounded e) (first_that (is_driven (elements_of circuit)) (driven_of e)) (DuplicateName (name_of e)) (NotGrounded (name_of e)) _ fault.0 in
    let free = roomy (element_limit e) (nat_le 100000 (length circuit)) (name_of e) rest in
    subst IsFit (ok_same more next placed.1)
    (fit_more circuit line e fit clear free.0 (leb-false 100000 (length circuit) free.1) (ltb-false 100000 (length (nodes_of more)) placed.0))

-- ---- models and tables

-- no name stands twice, and no value is outside its limit
pub record AreParts (parts : List (Word × Part)) : Type 0 where
  pub names : differ (map (λ p. p.0) parts) ≡ true
  pub limits : first_some (λ p. limited p.0 (part_limit p.1)) parts ≡ None

with_part-kept : (parts : List (Word × Part)) (name : Word) (part : Part) (limit : Option Which) (next : List (Word × Part)) → (limit ≡ None → part_limit part ≡ None)
    → AreParts parts → with_part parts name part limit ≡ Ok next → AreParts next
with_part-kept parts name part limit next inside fit is =
    let cause : Word × Part → Option EditRefusal = λ p. limited p.0 (part_limit p.1) in
    let more = parts ++ (name, part) ∷ [] in
    let new = passes (is_some (look_up name parts)) (DuplicateModel name) (elim limit [ Some which ↦ Err (Limit which name) | None ↦ Ok more ]) next is in
    let within = by limit more new.1 in
    subst AreParts within.1 (record {
      names =
          ap differ (map-append (λ (p : Word × Part). p.0) parts ((name, part) ∷ []))
          ∙ push_differs (map (λ (p : Word × Part). p.0) parts) name fit.names (look_up-names name parts ∙ new.0);
      limits = first_some-push cause parts (name, part) ∙ (λ i. option_or (fit.limits i) (limited name (inside within.0 i)));
    })
  where
    by : (o : Option Which) (more : List (Word × Part)) → ◌≡◌ {A = Result (List (Word × Part)) DeckWhy} (elim o [ Some which ↦ Err (Limit which name) | None ↦ Ok more ]) (Ok next) → (o ≡ None) × (more ≡ next)
    by (Some which) more h = absurd (cc)
    by None more h = (refl, ok_same more next h)

pub table_kept : (parts : List (Word × Part)) (words : List Word) (next : List (Word × Part)) → AreParts parts → with_table parts words ≡ Ok next → AreParts next
unfolding with_table
table_kept parts [] next fit is = absurd (cc)
table_kept parts (name ∷ words) next fit is =
    let read = steps (table_of words) (λ table. with_listed parts name (Listed table.gate table.drain table.amps)) next is in
    let part = Listed read.0.gate read.0.drain read.0.amps in
    with_part-kept parts name part (part_limit part) next (λ none. none) fit read.2

pub model_kept : (parts : List (Word × Part)) (words : List Word) (next : List (Word × Part)) → AreParts parts → with_model parts words ≡ Ok next → AreParts next
unfolding with_model
model_kept parts [] next fit is = absurd (cc)
model_kept parts (name ∷ words) next fit is =
    let read = steps (model_of words) (λ model. with_part parts name model.part model.limit) next is in
    with_part-kept parts name read.0.part read.0.limit next (model_within words read.0 read.1) fit read.2

-- ---- initial voltages

-- no name stands twice, and no voltage is outside its limit
pub record AreSmall (voltages : List (Word × ℤ)) : Type 0 where
  pub names : differ (map (λ p. p.0) voltages) ≡ true
  pub small : list_all (λ p. small_volts p.1) voltages ≡ true

-- in its limit, or standing again behind
abbrev excused : List (Word × ℤ) → Word × ℤ → Bool
excused voltages q = small_volts q.1 || is_some (look_up q.0 voltages)

named_more : (n : Word) (p : Word × ℤ) (voltages : List (Word × ℤ)) → is_some (look_up n (p ∷ voltages)) ≡ (bytes_eq n p.0 || is_some (look_up n voltages))
named_more n p voltages = by (bytes_eq n p.0)
  where
    by : (b : Bool) → is_some (elim (if b then Some p.1 else None) [ None ↦ look_up n voltages | Some y ↦ Some y ]) ≡ (b || is_some (look_up n voltages))
    by true = refl
    by false = refl

-- of another name than this one
others : (p : Word × ℤ) (voltages qs : List (Word × ℤ)) → list_any (bytes_eq p.0) (map (λ q. q.0) qs) ≡ false → list_all (excused (p ∷ voltages)) qs ≡ true
    → list_all (excused voltages) qs ≡ true
others p voltages [] new all = refl
others p voltages (q ∷ qs) new all =
    let apart = or_both (bytes_eq p.0 q.0) (list_any (bytes_eq p.0) (map (λ (r : Word × ℤ). r.0) qs)) new in
    let parts = and_parts (excused (p ∷ voltages) q) (list_all (excused (p ∷ voltages)) qs) all in
    let here : (bytes_eq q.0 p.0) ≡ false = name_turned q.0 p.0 ∙ apart.0 in
    let same : is_some (look_up q.0 (p ∷ voltages)) ≡ is_some (look_up q.0 voltages) = named_more q.0 p voltages ∙ ap (λ b. b || is_some (look_up q.0 voltages)) here in
    and_from _ _ (ap (λ b. small_volts q.1 || b) (sym same) ∙ parts.0) (others p voltages qs apart.1 parts.1)

put_excused : (p : Word × ℤ) (voltages qs : List (Word × ℤ)) → differ (map (λ q. q.0) qs) ≡ true → excused voltages p ≡ true → list_all (excused (p ∷ voltages)) qs ≡ true
    → list_all (excused voltages) (put qs p) ≡ true
put_excused p voltages [] apart one all = and_from (excused voltages p) true one refl
put_excused p voltages (q ∷ qs) apart one all = by (λ once rest. put_excused p voltages qs once one rest) (bytes_eq p.0 q.0) refl
  where
    parts : (excused (p ∷ voltages) q ≡ true) × (list_all (excused (p ∷ voltages)) qs ≡ true)
    parts = and_parts (excused (p ∷ voltages) q) (list_all (excused (p ∷ voltages)) qs) all

    once : (not (list_any (bytes_eq q.0) (map (λ r. r.0) qs)) ≡ true) × (differ (map (λ r. r.0) qs) ≡ true)
    once = and_parts (not (list_any (bytes_eq q.0) (map (λ (r : Word × ℤ). r.0) qs))) (differ (map (λ (r : Word × ℤ). r.0) qs)) apart

    by : (differ (map (λ r. r.0) qs) ≡ true → list_all (excused (p ∷ voltages)) qs ≡ true → list_all (excused voltages) (put qs p) ≡ true)
        → (b : Bool) → bytes_eq p.0 q.0 ≡ b → list_all (excused voltages) (if b then (q.0, p.1) ∷ qs else q ∷ put qs p) ≡ true
    by ih true is =
        let same : p.0 ≡ q.0 = same_name p.0 q.0 is in
        and_from _ _ (ap (λ n. small_volts p.1 || is_some (look_up n voltages)) (sym same) ∙ one)
        (others p voltages qs (ap (λ n. list_any (bytes_eq n) (map (λ (r : Word × ℤ). r.0) qs)) same ∙ from_not _ once.0) parts.1)
    by ih false is =
        let other : bytes_eq q.0 p.0 ≡ false = name_turned q.0 p.0 ∙ is in
        let same : is_some (look_up q.0 (p ∷ voltages)) ≡ is_some (look_up q.0 voltages) = named_more q.0 p voltages ∙ ap (λ b. b || is_some (look_up q.0 voltages)) other in
        and_from _ _ (ap (λ b. small_volts q.1 || b) (sym same) ∙ parts.0) (ih once.1 parts.1)

excused_none : (qs : List (Word × ℤ)) → list_all (excused []) qs ≡ true → list_all (λ p. small_volts p.1) qs ≡ true
excused_none [] all = refl
excused_none (q ∷ qs) all =
    let parts = and_parts (excused [] q) (list_all (excused []) qs) all in
    and_from _ _ (by (small_volts q.1) parts.0) (excused_none qs parts.1)
  where
    by : (b : Bool) → (b || false) ≡ true → b ≡ true
    by true h = refl
    by false h = h

small_excused : (voltages qs : List (Word × ℤ)) → list_all (λ p. small_volts p.1) qs ≡ true → list_all (excused voltages) qs ≡ true
small_excused voltages [] all = refl
small_excused voltages (q ∷ qs) all =
    let parts = and_parts (small_volts q.1) (list_all (λ (p : Word × ℤ). small_volts p.1) qs) all in
    and_from _ _ (ap (λ b. b || is_some (look_up q.0 voltages)) parts.0) (small_excused voltages qs parts.1)

-- where no voltage that is looked at is outside its limit, all that hold are small
small_after : (qs voltages : List (Word × ℤ)) → differ (map (λ q. q.0) qs) ≡ true → list_all (excused voltages) qs ≡ true → voltage_limit voltages ≡ None
    → list_all (λ p. small_volts p.1) (fold put qs voltages) ≡ true
unfolding voltage_limit
small_after qs [] apart all none = excused_none qs all
small_after qs (p ∷ voltages) apart all none =
    by (λ one rest. small_after (put qs p) voltages (put_once qs p apart) (put_excused p voltages qs apart one all) rest) (is_some (look_up p.0 voltages)) (small_volts p.1) refl refl none
  where
    by : (excused voltages p ≡ true → voltage_limit voltages ≡ None → list_all (λ r. small_volts r.1) (fold put (put qs p) voltages) ≡ true)
        → (a b : Bool) → is_some (look_up p.0 voltages) ≡ a → small_volts p.1 ≡ b → (if a || b then voltage_limit voltages else Some (Limit Volts p.0)) ≡ None
        → list_all (λ r. small_volts r.1) (fold put (put qs p) voltages) ≡ true
    by go true true e f h = go (λ i. f i || e i) h
    by go true false e f h = go (λ i. f i || e i) h
    by go false true e f h = go (λ i. f i || e i) h
    by go false false e f h = absurd (cc)

pub voltages_kept : (before : List (Word × ℤ)) (words : List Word) (next : List (Word × ℤ)) → AreSmall before → with_initial before words ≡ Ok next → AreSmall next
unfolding with_initial
voltages_kept before words next fit is =
    let read = steps (initial words) (λ voltages. elim (voltage_limit voltages) [ Some why ↦ Err why | None ↦ Ok (fold put before voltages) ]) next is in
    let none = faultless (voltage_limit read.0) (Ok (fold put before read.0)) next read.2 in
    subst AreSmall (ok_same (fold put before read.0) next none.1) (record {
      names = fold_put_once before read.0 fit.names;
      small = small_after before read.0 fit.names (small_excused read.0 before fit.small) none.0;
    })

-- ---- grain and stop tick

grain_in : (before : ℕ) (word : Word) (said : Option ℤ) (next : ℕ) → some_grain before ≡ true → grain_after before word said ≡ Ok next → some_grain next ≡ true
grain_in before word None next fit is = ap some_grain (sym (ok_same before next is)) ∙ fit
grain_in before word (Some z) next fit is =
    let h = holds (is_grain z) (Limit Grain word) (unsigned_abs z) next is in
    ap some_grain (sym h.1) ∙ (and_parts (int_le (pos 0) z) (some_grain (unsigned_abs z)) h.0).1

pub grain_kept : (before : ℕ) (word : Word) (words : List Word) (next : ℕ) → some_grain before ≡ true → with_options before word words ≡ Ok next → some_grain next ≡ true
unfolding with_options
grain_kept before word words next fit is =
    let read = steps (options words) (grain_after before word) next is in
    grain_in before word read.0 next fit read.2

abbrev pub IsShort : Option (ℕ × Bool) → Type 0
IsShort None = Unit {0}
IsShort (Some span) = short_time span.0 ≡ true

pub span_kept : (before : Option (ℕ × Bool)) (word : Word) (words : List Word) (next : Option (ℕ × Bool)) → with_tran before word words ≡ Ok next → IsShort next
unfolding with_tran
span_kept before word words next is =
    let read = steps (tran words) (span_after before word) next is in
    let span = read.0 in
    let first = passes (is_some before) SecondTran (if is_stop span.stop then Ok (Some (unsigned_abs span.stop, span.uic)) else Err (Limit Seconds word)) next read.2 in
    let h = holds (is_stop span.stop) (Limit Seconds word) (Some (unsigned_abs span.stop, span.uic)) next first.1 in
    subst IsShort h.1 (and_parts (int_le (pos 0) span.stop) (short_time (unsigned_abs span.stop)) h.0).1
