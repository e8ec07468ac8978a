-- Cards without a fault leave only causes of nodes to the whole deck.
use Rattle.std.proofs.Common.{◌≡◌, ℕ, ℤ, Bool, true, false, ◌&&◌, if◌then◌else◌, List, [], ◌∷◌, Option, Some, None, is_some, is_none, Result, Ok, Err, inl, inr, refl, sym, ◌∙◌, ap, subst, arith}
use Rattle.std.specs.Prelude.{codes, slice_get}
use Rattle.std.specs.Option.{option_or, option_map, option_and_then}
use Rattle.std.specs.List.{list_all}
use Rattle.std.specs.Str.{bytes_eq}
use Rattle.std.proofs.lemmas.Bool.{and_from}
use Rattle.std.proofs.lemmas.Option.{slice_get_past}
use Rattle.semantics.specs.declared.element.Element.TheVariants.{Resistor, Capacitor, Source, Mos}
use Rattle.semantics.specs.Part as part
use Rattle.semantics.specs.Deck.{DeckValue, name_of, look_up, first_some}
use Rattle.semantics.specs.Valid.{some_grain, short_time, small_volts, has_part}
use Rattle.deck_lexer.specs.declared.fault.LexFault.{LexFault}
use Rattle.deck_lexer.specs.Cards.{Card}
use Rattle.deck_lexer.specs.Reading.{deck_cards, deck_end, deck_fault}
use Rattle.deck_cards.specs.declared.which.Which.TheVariants.{Elements, Seconds, Grain, Volts}
use Rattle.deck_cards.specs.declared.edit_refusal.EditRefusal.{EditRefusal}
use Rattle.deck_cards.specs.declared.edit_refusal.EditRefusal.TheVariants as edit
use Rattle.deck_cards.specs.Answers.{Refuses}
use Rattle.deck_cards.specs.Causes.{limit, adding_cause, uncapped, no_initial, value_limit, many_elements, many_nodes, node_farads, many_terminals, whole_cause, deck_cause}
use Rattle.deck_cards.specs.Settled.{settled}
use Rattle.deck_cards.proofs.Added.{added}
use Rattle.deck_cards.proofs.Counting.{few_none}
use Rattle.deck_cards.proofs.Within.{limit_none, none_first}
use Rattle.deck_reader.specs.declared.why.DeckWhy.{DeckWhy}
use Rattle.deck_reader.specs.declared.why.DeckWhy.TheVariants.{NoSuchModel}
use Rattle.deck_reader.specs.declared.why.DeckRefusal.{DeckRefusal}
use Rattle.deck_reader.specs.declared.told.Told.{Told}
use Rattle.deck_reader.specs.Words.{Word}
use Rattle.deck_reader.specs.Numbers.{◌>>=◌}
use Rattle.deck_reader.specs.Elements.{element}
use Rattle.deck_reader.specs.Circuit.{Circuit, elements_of, nodes_of, with_element}
use Rattle.deck_reader.specs.Told.{nothing, with_table, with_model, with_initial, is_options, with_options, with_tran, is_output, with_words}
use Rattle.deck_reader.specs.Reading.{at, at_line, told_after, missing_part, no_such_model, told_deck, node_cause, node_refusal, sound, lexer_refusal, told_in, Reads}
use Rattle.deck_reader.specs.Sound.{IsSound, Tells}
use Rattle.deck_cards.proofs.Once.{puts_apart}
use Rattle.deck_reader.proofs.InversionLemmas.{steps, ok_same}
use Rattle.deck_reader.proofs.KeptLemmas.{IsFit, AreParts, AreSmall, IsShort, circuit_kept, table_kept, model_kept, voltages_kept, grain_kept, span_kept}

-- ---- the cards

-- what is told by cards without a fault
pub record IsKept (told : Told) : Type 0 where
  pub fit : IsFit told.circuit
  pub parts : AreParts told.parts
  pub small : AreSmall told.initial
  pub fine : some_grain told.grain ≡ true
  pub short : IsShort told.span

nothing_kept : IsKept nothing
unfolding nodes_of
nothing_kept = record {
  fit = record { names = refl; driven = refl; grounded = refl; limits = refl; few = omega arith; few_nodes = omega arith };
  parts = record { names = refl; limits = refl };
  small = record { names = refl; small = refl };
  fine = refl;
  short = tt;
}

card_kept : (told : Told) (line : ℕ) (words : List Word) (next : Told) → IsKept told → with_words told line words ≡ Ok next → IsKept next
unfolding with_words
card_kept told line [] next kept is = absurd (cc)
card_kept told line (word ∷ words) next kept is =
    by (bytes_eq word (codes ".table")) (bytes_eq word (codes ".model")) (bytes_eq word (codes ".ic")) (is_options word) (bytes_eq word (codes ".tran")) (is_output word) is
  where
    by : (table model ic options tran output : Bool)
        → (if table then (with_table told.parts words >>= (λ parts. Ok (record told { parts = parts })))
        else if model then (with_model told.parts words >>= (λ parts. Ok (record told { parts = parts })))
        else if ic then (with_initial told.initial words >>= (λ voltages. Ok (record told { initial = voltages })))
        else if options then (with_options told.grain word words >>= (λ grain. Ok (record told { grain = grain })))
        else if tran then (with_tran told.span word words >>= (λ span. Ok (record told { span = span })))
        else if output then Ok told
        else (element (word ∷ words) >>= (λ card. with_element told.circuit line card >>= (λ circuit. Ok (record told { circuit = circuit }))))) ≡ Ok next
        → IsKept next
    by true model ic options tran output h =
        let read = steps (with_table told.parts words) (λ parts. Ok (record told { parts = parts })) next h in
        subst IsKept (ok_same (record told { parts = read.0 }) next read.2)
        (record { fit = kept.fit; parts = table_kept told.parts words read.0 kept.parts read.1; small = kept.small; fine = kept.fine; short = kept.short })
    by false true ic options tran output h =
        let read = steps (with_model told.parts words) (λ parts. Ok (record told { parts = parts })) next h in
        subst IsKept (ok_same (record told { parts = read.0 }) next read.2)
        (record { fit = kept.fit; parts = model_kept told.parts words read.0 kept.parts read.1; small = kept.small; fine = kept.fine; short = kept.short })
    by false false true options tran output h =
        let read = steps (with_initial told.initial words) (λ voltages. Ok (record told { initial = voltages })) next h in
        subst IsKept (ok_same (record told { initial = read.0 }) next read.2)
        (record { fit = kept.fit; parts = kept.parts; small = voltages_kept told.initial words read.0 kept.small read.1; fine = kept.fine; short = kept.short })
    by false false false true tran output h =
        let read = steps (with_options told.grain word words) (λ grain. Ok (record told { grain = grain })) next h in
        subst IsKept (ok_same (record told { grain = read.0 }) next read.2)
        (record { fit = kept.fit; parts = kept.parts; small = kept.small; fine = grain_kept told.grain word words read.0 kept.fine read.1; short = kept.short })
    by false false false false true output h =
        let read = steps (with_tran told.span word words) (λ span. Ok (record told { span = span })) next h in
        subst IsKept (ok_same (record told { span = read.0 }) next read.2)
        (record { fit = kept.fit; parts = kept.parts; small = kept.small; fine = kept.fine; short = span_kept told.span word words read.0 read.1 })
    by false false false false false true h = subst IsKept (ok_same told next h) kept
    by false false false false false false h =
        let card = steps (element (word ∷ words)) (λ card. with_element told.circuit line card >>= (λ circuit. Ok (record told { circuit = circuit }))) next h in
        let read = steps (with_element told.circuit line card.0) (λ circuit. Ok (record told { circuit = circuit })) next card.2 in
        subst IsKept (ok_same (record told { circuit = read.0 }) next read.2)
        (record {
          fit = circuit_kept told.circuit line card.0 read.0 kept.fit read.1;
          parts = kept.parts;
          small = kept.small;
          fine = kept.fine;
          short = kept.short;
        })

at_line-ok : {A : Type 0} (line : ℕ) (r : Result A DeckWhy) (x : A) → at_line line r ≡ Ok x → r ≡ Ok x
at_line-ok line (Ok y) x is = ap Ok (ok_same y x is)
at_line-ok line (Err why) x is = absurd (cc)

cards_kept : (told : Told) (cards : List Card) (next : Told) → IsKept told → told_after told cards ≡ Ok next → IsKept next
unfolding told_after
cards_kept told [] next kept is = subst IsKept (ok_same told next is) kept
cards_kept told (card ∷ cards) next kept is =
    let read = steps (at_line card.line (with_words told card.line card.words)) (λ t. told_after t cards) next is in
    cards_kept read.0 cards next (card_kept told card.line card.words read.0 kept (at_line-ok card.line (with_words told card.line card.words) read.0 read.1)) read.2

-- ---- the whole deck

-- each device has its part
not_missing : (o : Option part.Part) → is_none o ≡ false → is_some o ≡ true
not_missing None h = absurd (cc)
not_missing (Some p) h = refl

parts_there : (d : DeckValue) (circuit : Circuit) → first_some (missing_part d.parts) circuit ≡ None → list_all (has_part d) (elements_of circuit) ≡ true
parts_there d [] none = refl
parts_there d ((line, Resistor name first second ohms) ∷ circuit) none = parts_there d circuit none
parts_there d ((line, Capacitor name plus minus farads) ∷ circuit) none = parts_there d circuit none
parts_there d ((line, Source name plus minus wave) ∷ circuit) none = parts_there d circuit none
parts_there d ((line, Mos name drain gate source bulk part len width) ∷ circuit) none = by (λ h. parts_there d circuit h) (is_none (look_up part d.parts)) refl none
  where
    by : (first_some (missing_part d.parts) circuit ≡ None → list_all (has_part d) (elements_of circuit) ≡ true)
        → (b : Bool) → is_none (look_up part d.parts) ≡ b
        → ◌≡◌ {A = Option DeckRefusal} (elim (if b then Some (at line (NoSuchModel part)) else None) [ None ↦ first_some (missing_part d.parts) circuit | Some y ↦ Some y ]) None
        → (is_some (look_up part d.parts) && list_all (has_part d) (elements_of circuit)) ≡ true
    by ih true is h = absurd (cc)
    by ih false is h = and_from _ _ (not_missing (look_up part d.parts) is) (ih h)

-- ---- no other cause

short_stop : (told : Told) (span : ℕ × Bool) → IsShort told.span → told.span ≡ Some span → short_time span.0 ≡ true
short_stop told span short is = subst IsShort is short

nodes_alone : (told : Told) (title : List ℕ) (span : ℕ × Bool) → IsKept told → told.span ≡ Some span → no_such_model told ≡ None
    → deck_cause (told_deck title told span) ≡ node_cause (told_deck title told span)
unfolding deck_cause whole_cause node_cause told_deck value_limit many_elements many_nodes no_such_model nodes_of
nodes_alone told title span kept is none =
    let d : DeckValue = told_deck title told span in
    let es = elements_of told.circuit in
    let fit = kept.fit in
    let adding : adding_cause d [] es ≡ None = added d [] es (record { names = fit.names; driven = fit.driven; grounded = fit.grounded; parts = parts_there d told.circuit none }) in
    let initial : first_some (λ (p : Word × ℤ). limit (small_volts p.1) Volts p.0) told.initial ≡ None =
    none_first (λ (p : Word × ℤ). small_volts p.1) (λ p. limit (small_volts p.1) Volts p.0) (λ p h. limit_none (small_volts p.1) Volts p.0 h) told.initial kept.small.small in
    let short = short_stop told span kept.short is in
    let counted : option_map (λ e. edit.Limit Elements (name_of e)) (slice_get es 100000) ≡ None = ap (option_map (λ e. edit.Limit Elements (name_of e))) (slice_get_past es 100000 fit.few) in
    let nodes = few_none es [] fit.few_nodes in
    λ i. option_or (adding i) (option_or (uncapped d) (option_or (no_initial d)
    (option_or (option_or (limit (short i) Seconds (codes ".tran")) (option_or (limit (kept.fine i) Grain (codes ".options")) (option_or (kept.parts.limits i) (option_or (initial i) (option_or (fit.limits i) None)))))
    (option_or (counted i) (option_or (nodes i) (option_or (node_farads d) (option_or (many_terminals d) None)))))))

-- no part and no initial voltage stands twice
told_once : (told : Told) (title : List ℕ) (span : ℕ × Bool) → IsKept told → settled (told_deck title told span) ≡ told_deck title told span
unfolding settled told_deck
told_once told title span kept =
    let d : DeckValue = told_deck title told span in
    λ i. record d { parts = puts_apart [] told.parts kept.parts.names i; initial = puts_apart [] told.initial kept.small.names i }

-- what is told by cards without a fault leaves only causes of nodes
pub told_sound : (cards : List Card) (told : Told) → told_after nothing cards ≡ Ok told → IsSound told
told_sound cards told is =
    let kept = cards_kept nothing cards told nothing_kept is in
    record { once = λ title span. told_once told title span kept; nodes_alone = λ title span at none. nodes_alone told title span kept at none }

-- the same of what a text says
pub text_sound : (text : List ℕ) (told : Told) (end : ℕ) → told_in text ≡ Ok (told, end) → IsSound told
unfolding told_in
text_sound text told end is =
    let read = steps (told_after nothing (deck_cards text)) (λ t. elim (deck_fault text) [ Some fault ↦ Err (lexer_refusal fault) | None ↦ Ok (t, deck_end text) ]) (told, end) is in
    told_sound (deck_cards text) told (read.1 ∙ ap Ok (by read.0 (deck_fault text) read.2))
  where
    by : (t : Told) (o : Option LexFault) → ◌≡◌ {A = Result (Told × ℕ) DeckRefusal} (elim o [ Some fault ↦ Err (lexer_refusal fault) | None ↦ Ok (t, deck_end text) ]) (Ok (told, end)) → t ≡ told
    by t None is = ap (λ p. p.0) (ok_same (t, deck_end text) (told, end) is)
    by t (Some fault) is = absurd (cc)

-- a cause of a node that is told is the first fault of the nodes
pub told_at : (line : Word → ℕ) (d : DeckValue) (cause : EditRefusal) (refusal : DeckRefusal) → Refuses cause (deck_cause d) → deck_cause d ≡ node_cause d → Tells refusal line cause
    → Reads {A = DeckValue} (Err refusal) (sound line d)
unfolding sound
told_at line d cause refusal caused alone (inl memory) = inl memory
told_at line d cause refusal caused alone (inr told) =
    inr (ap (λ (o : Option DeckRefusal). elim o [ Some r ↦ Err r | None ↦ Ok d ]) (ap (option_and_then (node_refusal line)) (sym alone ∙ is cause caused told) ∙ told))
  where
    is : (e : EditRefusal) → Refuses e (deck_cause d) → node_refusal line e ≡ Some refusal → deck_cause d ≡ Some e
    is edit.Memory caused told = absurd (cc)
    is (edit.NoSuchName n) caused told = caused
    is (edit.WrongKind n) caused told = caused
    is (edit.DuplicateName n) caused told = caused
    is (edit.NoSuchModel n) caused told = caused
    is (edit.NotGrounded n) caused told = caused
    is (edit.TwoDrivers n) caused told = caused
    is (edit.Uncapped n) caused told = caused
    is (edit.NoInitial n) caused told = caused
    is (edit.Limit which n) caused told = caused
