use Rattle.std.proofs.Common.{◌∙◌, ℕ, ◌+◌, ◌^◌, ◌<◌, Bool, true, false, if◌then◌else◌, map, take, sym, arith}
use Rattle.std.specs.Str.{bytes_eq}
use Rattle.deck_cards.specs.Facts.{terminals_of}
use Rattle.deck_cards.proofs.Ends.{terminals-more, terminals_small, none_more, two_more}
use Rattle.deck_cards.proofs.Named.{twice, every_value}
use Rattle.deck_cards.proofs.terminals.count_element.Goals as goal

-- ---- the counts

pub returns-in-Resistor : goal.returns-in-Resistor
returns-in-Resistor c =
    let es = c.args.elements.now in
    terminals-more es c.args.place _ _ c.args.names.now.keys _ c.requires.within (sym c.in-Resistor.is ∙ c.index-elements-place.is)
    (twice _ c.in-Resistor.first c.in-Resistor.second (λ k. k + 1) _ _ _ _ _ c.requires.before c.count_end.ensures c.count_end-in-Resistor.ensures
    (λ n. two_more (bytes_eq n c.in-Resistor.first) (bytes_eq n c.in-Resistor.second) (terminals_of n (take c.args.place es))))

pub returns-in-Mos : goal.returns-in-Mos
returns-in-Mos c =
    let es = c.args.elements.now in
    terminals-more es c.args.place _ _ c.args.names.now.keys _ c.requires.within (sym c.in-Mos.is ∙ c.index-elements-place.is)
    (twice _ c.in-Mos.drain c.in-Mos.source (λ k. k + 1) _ _ _ _ _ c.requires.before c.count_end-in-Mos.ensures c.count_end-in-Mos-2.ensures
    (λ n. two_more (bytes_eq n c.in-Mos.drain) (bytes_eq n c.in-Mos.source) (terminals_of n (take c.args.place es))))

pub returns-in-Capacitor : goal.returns-in-Capacitor
returns-in-Capacitor c =
    let es = c.args.elements.now in
    terminals-more es c.args.place _ _ c.args.names.now.keys _ c.requires.within (sym c.in-Capacitor.is ∙ c.index-elements-place.is)
    (c.requires.before ∙ (λ i. map (λ n. none_more (terminals_of n (take c.args.place es)) i) c.args.names.now.keys))

pub returns-in-Source : goal.returns-in-Source
returns-in-Source c =
    let es = c.args.elements.now in
    terminals-more es c.args.place _ _ c.args.names.now.keys _ c.requires.within (sym c.in-Source.is ∙ c.index-elements-place.is)
    (c.requires.before ∙ (λ i. map (λ n. none_more (terminals_of n (take c.args.place es)) i) c.args.names.now.keys))

-- ---- each addition has room

once : (a : Bool) (k : ℕ) → k + 2 < 2 ^ 32 → (if a then k + 1 else k) + 1 < 2 ^ 32
once true k h = omega arith
once false k h = omega arith

pub count_end-requires-clause-room : goal.count_end-requires-clause-room
count_end-requires-clause-room c =
    every_value _ (λ k. k + 1 < 2 ^ 32) _ _ c.requires.before (λ n. once false _ (terminals_small n c.args.elements.now c.args.place c.requires.within c.requires.few))

pub count_end-requires-in-Resistor-clause-room : goal.count_end-requires-in-Resistor-clause-room
count_end-requires-in-Resistor-clause-room c =
    every_value _ (λ k. k + 1 < 2 ^ 32) _ _ (c.count_end.ensures _ c.requires.before)
    (λ n. once (bytes_eq n c.in-Resistor.first) _ (terminals_small n c.args.elements.now c.args.place c.requires.within c.requires.few))

pub count_end-requires-in-Mos-clause-room : goal.count_end-requires-in-Mos-clause-room
count_end-requires-in-Mos-clause-room c =
    every_value _ (λ k. k + 1 < 2 ^ 32) _ _ c.requires.before (λ n. once false _ (terminals_small n c.args.elements.now c.args.place c.requires.within c.requires.few))

pub count_end-requires-in-Mos-2-clause-room : goal.count_end-requires-in-Mos-2-clause-room
count_end-requires-in-Mos-2-clause-room c =
    every_value _ (λ k. k + 1 < 2 ^ 32) _ _ (c.count_end-in-Mos.ensures _ c.requires.before)
    (λ n. once (bytes_eq n c.in-Mos.drain) _ (terminals_small n c.args.elements.now c.args.place c.requires.within c.requires.few))
