-- What is left of a deck.
use Rattle.std.proofs.Common.{◌≡◌, ℕ, ◌+◌, ◌<◌, ◌≤◌, Bool, true, false, ltb, List, [], ◌∷◌, ◌++◌, length, drop, refl, ap, ap₂, ◌∙◌, sym, arith, Option, Some, None, Result, Ok, Err, IsSome, option_map, IfSome, subst, not, ◌&&◌, if◌then◌else◌}
use Rattle.std.specs.List.{enumerate_from, list_all}
use Rattle.std.proofs.lemmas.List.{drop_all}
use Rattle.std.proofs.lemmas.List.Sums.{take_while-cons}
use Rattle.std.proofs.lemmas.Bool.{lt-ltb, le-ltb, false≢true}
use Rattle.deck_lexer.specs.declared.pending.Step.TheVariants.{Next, End, Fault}
use Rattle.deck_lexer.specs.declared.fault.LexFault.{LexFault}
use Rattle.deck_lexer.specs.declared.fault.LexFault.TheVariants.{NotAscii, ContinuesNothing, NoEnd}
use Rattle.deck_lexer.specs.Lines.{Line, is_empty, lines_of}
use Rattle.deck_lexer.specs.Cards.{Card, Kind, title, comment, continuation, blank, end, new_card, kind_of, with_words, with_line, with_line_of, with_lines}
use Rattle.deck_lexer.specs.Reading.{is_allowed, is_looked_at, is_continuation, is_end, fault_of, fault_or_no_end, end_or_0, kept_lines, ends_deck, through_end, first_fault, lines_before, end_line, line_of, read_lines, line_fault, deck_fault, deck_end, deck_cards}
use Rattle.deck_lexer.specs.Draft.{draft_card}
use Rattle.deck_lexer.specs.Pending.{ReadsLine, listed}
use Rattle.deck_lexer.specs.declared.scan.Scan.{Scan}
use Rattle.deck_lexer.specs.Scan.{scan_left, IsScan}
use Rattle.deck_lexer.specs.Left.{Left, left, from_line, over}
use Rattle.deck_lexer.proofs.LineLemmas.{lines_of-nil}

-- ---- one line

pub left-next : (cards new : List Card) (n : ℕ) (line : List ℕ) (lines : List (List ℕ)) → ReadsLine cards (n + 1, line) Next new → left cards n (line ∷ lines) ≡ left new (n + 1) lines
left-next cards new n line lines r = rw (r.0, r.1, r.2) refl

pub left-end : (cards new : List Card) (n : ℕ) (line : List ℕ) (lines : List (List ℕ)) → ReadsLine cards (n + 1, line) End new → left cards n (line ∷ lines) ≡ over new (Ok (n + 1))
left-end cards new n line lines r = rw (r.0, r.1, r.2) refl

pub left-fault : (cards new : List Card) (n : ℕ) (fault : LexFault) (line : List ℕ) (lines : List (List ℕ)) → ReadsLine cards (n + 1, line) (Fault fault) new → left cards n (line ∷ lines) ≡ over new (Err fault)
left-fault cards new n fault line lines r = rw (r.0, r.2) refl

-- ---- a card behind which another has begun

with_words-behind : (card : Card) (cards : List Card) (words : List (List ℕ)) → is_empty cards ≡ false → with_words (card ∷ cards) words ≡ card ∷ with_words cards words
with_words-behind card [] words e = absurd (cc)
with_words-behind card (next ∷ more) words e = refl

with_line_of-behind : (kind : Kind) (card : Card) (cards : List Card) (line : Line) → is_empty cards ≡ false → with_line_of kind (card ∷ cards) line ≡ card ∷ with_line_of kind cards line
with_line_of-behind title card cards line e = refl
with_line_of-behind comment card cards line e = refl
with_line_of-behind continuation card cards line e = with_words-behind card cards _ e
with_line_of-behind blank card cards line e = refl
with_line_of-behind end card cards line e = refl
with_line_of-behind new_card card cards line e = refl

is_empty-words : (cards : List Card) (words : List (List ℕ)) → is_empty cards ≡ false → is_empty (with_words cards words) ≡ false
is_empty-words [] words e = e
is_empty-words (card ∷ []) words e = refl
is_empty-words (card ∷ next ∷ more) words e = refl

is_empty-push : (cards : List Card) (card : Card) → is_empty (cards ++ card ∷ []) ≡ false
is_empty-push [] card = refl
is_empty-push (first ∷ cards) card = refl

is_empty-line : (kind : Kind) (cards : List Card) (line : Line) → is_empty cards ≡ false → is_empty (with_line_of kind cards line) ≡ false
is_empty-line title cards line e = e
is_empty-line comment cards line e = e
is_empty-line continuation cards line e = is_empty-words cards _ e
is_empty-line blank cards line e = e
is_empty-line end cards line e = e
is_empty-line new_card cards line e = is_empty-push cards _

-- what is left with a card before it
abbrev pub behind : Card → Left → Left
behind card rest = record { cards = card ∷ rest.cards; end = rest.end; fault = rest.fault }

fault_of-behind : (card : Card) (cards : List Card) (line : Line) → is_empty cards ≡ false → fault_of (card ∷ cards) line ≡ fault_of cards line
fault_of-behind card cards line e = rw e refl

from_line-behind : (card : Card) (cards : List Card) (number : ℕ) (fault : Option LexFault) (ends : Bool) (rest : Left) → from_line (card ∷ cards) number fault ends (behind card rest) ≡ behind card (from_line cards number fault ends rest)
from_line-behind card cards number (Some fault) ends rest = refl
from_line-behind card cards number None true rest = refl
from_line-behind card cards number None false rest = refl

pub left-behind : (card : Card) (cards : List Card) (n : ℕ) (lines : List (List ℕ)) → is_empty cards ≡ false → left (card ∷ cards) n lines ≡ behind card (left cards n lines)
left-behind card cards n [] e = refl
left-behind card cards n (line ∷ lines) e =
    let kind = kind_of (n + 1, line) in
    let rest = with_line_of-behind kind card cards (n + 1, line) e in
    let more = left-behind card (with_line cards (n + 1, line)) (n + 1) lines (is_empty-line kind cards (n + 1, line) e) in
    rw (fault_of-behind card cards (n + 1, line) e, rest, more) (from_line-behind card cards (n + 1) (fault_of cards (n + 1, line)) (ends_deck (n + 1, line)) (left (with_line cards (n + 1, line)) (n + 1) lines))

-- ---- the whole deck

-- the lines that are looked at of those that follow the first n
abbrev pub looked_at : ℕ → List (List ℕ) → List Line
looked_at n lines = through_end (enumerate_from (n + 1) lines)

-- what the definitions of the whole deck say of these lines
abbrev pub all_of : List Card → Option LexFault → List Line → ℕ → Left
all_of cards fault lines count = record { cards = with_lines cards (kept_lines fault lines); end = end_or_0 fault (end_line lines); fault = fault_or_no_end fault (end_line lines) count }

fault_if-line : (a b : Bool) (number : ℕ) → IfSome (if a then Some (NotAscii number) else if b then Some (ContinuesNothing number) else None) (λ fault. line_of fault ≡ number)
fault_if-line true b number = refl
fault_if-line false true number = refl
fault_if-line false false number = tt

-- a fault of a line has its number
fault_of-line : (cards : List Card) (line : Line) (fault : LexFault) → fault_of cards line ≡ Some fault → line_of fault ≡ line.0
fault_of-line cards line fault e =
    let kind = kind_of line in
    subst (λ f. IfSome f (λ g. line_of g ≡ line.0)) e (fault_if-line (is_looked_at kind && not (list_all is_allowed line.1)) (is_continuation kind && is_empty cards) line.0)

lines_before-next : (m : ℕ) (line : Line) (lines : List Line) → line.0 < m → lines_before m (line ∷ lines) ≡ line ∷ lines_before m lines
lines_before-next m line lines h = take_while-cons (λ l. ltb l.0 m) line lines ∙ rw (lt-ltb line.0 m h) refl

lines_before-here : (m : ℕ) (line : Line) (lines : List Line) → m ≤ line.0 → lines_before m (line ∷ lines) ≡ []
lines_before-here m line lines h = take_while-cons (λ l. ltb l.0 m) line lines ∙ rw (le-ltb line.0 m h) refl

through_end-next : (line : Line) (lines : List Line) → ends_deck line ≡ false → through_end (line ∷ lines) ≡ line ∷ through_end lines
through_end-next line lines e = rw e refl

through_end-end : (line : Line) (lines : List Line) → ends_deck line ≡ true → through_end (line ∷ lines) ≡ line ∷ []
through_end-end line lines e = rw e refl

later-weaker : (n : ℕ) (fault : Option LexFault) → IfSome fault (λ f. n + 1 < line_of f) → IfSome fault (λ f. n < line_of f)
later-weaker n None h = tt
later-weaker n (Some fault) h = omega (arith, h)

-- a fault stands behind the lines that are read
first_fault-later : (cards : List Card) (n : ℕ) (lines : List (List ℕ)) → IfSome (first_fault cards (looked_at n lines)) (λ fault. n < line_of fault)
first_fault-later cards n [] = tt
first_fault-later cards n (line ∷ lines) = go (fault_of cards (n + 1, line)) (ends_deck (n + 1, line)) refl refl (first_fault-later (with_line cards (n + 1, line)) (n + 1) lines)
  where
    go : (fault : Option LexFault) (ends : Bool) → fault_of cards (n + 1, line) ≡ fault → ends_deck (n + 1, line) ≡ ends
        → IfSome (first_fault (with_line cards (n + 1, line)) (looked_at (n + 1) lines)) (λ f. n + 1 < line_of f) → IfSome (first_fault cards (looked_at n (line ∷ lines))) (λ f. n < line_of f)
    go (Some fault) ends f e more = rw f (omega (arith, fault_of-line cards (n + 1, line) fault f))
    go None true f e more = rw (f, e) tt
    go None false f e more = rw (f, e) (later-weaker n _ more)

with_line-end : (kind : Kind) (cards : List Card) (line : Line) → is_end kind ≡ true → with_line_of kind cards line ≡ cards
with_line-end title cards line e = refl
with_line-end comment cards line e = refl
with_line-end continuation cards line e = absurd (false≢true e)
with_line-end blank cards line e = refl
with_line-end end cards line e = refl
with_line-end new_card cards line e = absurd (false≢true e)

-- one more line in front
all_of-next : (cards : List Card) (fault : Option LexFault) (line : Line) (lines : List Line) (count : ℕ) → IfSome fault (λ f. line.0 < line_of f) → ends_deck line ≡ false
    → all_of cards fault (line ∷ lines) count ≡ all_of (with_line cards line) fault lines count
all_of-next cards None line lines count later e = rw e refl
all_of-next cards (Some fault) line lines count later e = rw (lines_before-next (line_of fault) line lines later) refl

left-all : (cards : List Card) (n : ℕ) (lines : List (List ℕ)) → left cards n lines ≡ all_of cards (first_fault cards (looked_at n lines)) (looked_at n lines) (n + length lines)
left-all cards n [] = ap (λ m. over cards (Err (NoEnd m))) (omega arith)
left-all cards n (line ∷ lines) = go (fault_of cards (n + 1, line)) (ends_deck (n + 1, line)) refl refl (left-all (with_line cards (n + 1, line)) (n + 1) lines)
  where
    go : (fault : Option LexFault) (ends : Bool) → fault_of cards (n + 1, line) ≡ fault → ends_deck (n + 1, line) ≡ ends
        → left (with_line cards (n + 1, line)) (n + 1) lines ≡ all_of (with_line cards (n + 1, line)) (first_fault (with_line cards (n + 1, line)) (looked_at (n + 1) lines)) (looked_at (n + 1) lines) (n + 1 + length lines)
        → left cards n (line ∷ lines) ≡ all_of cards (first_fault cards (looked_at n (line ∷ lines))) (looked_at n (line ∷ lines)) (n + length (line ∷ lines))
    go (Some fault) ends f e more =
        rw (f, lines_before-here (line_of fault) (n + 1, line) _ (omega (arith, fault_of-line cards (n + 1, line) fault f))) refl
    go None true f e more = rw (f, e, with_line-end (kind_of (n + 1, line)) cards (n + 1, line) e) refl
    go None false f e more =
        let here : Line = (n + 1, line) in
        let next = with_line cards here in
        let rest = looked_at (n + 1) lines in
        let stays : left cards n (line ∷ lines) ≡ left next (n + 1) lines = rw (f, e) refl in
        let first : first_fault cards (here ∷ rest) ≡ first_fault next rest = rw f refl in
        let long : n + length (line ∷ lines) ≡ n + 1 + length lines = omega arith in
        stays ∙ more ∙ sym
        (ap (λ seen. all_of cards (first_fault cards seen) seen (n + length (line ∷ lines))) (through_end-next here (enumerate_from (n + 1 + 1) lines) e)
        ∙ ap₂ (λ fault count. all_of cards fault (here ∷ rest) count) first long
        ∙ all_of-next cards (first_fault next rest) here rest (n + 1 + length lines) (first_fault-later next (n + 1) lines) e)

-- what is left of a text of which nothing is read
pub record IsWhole (text : List ℕ) (rest : Left) : Type 0 where
  pub cards : rest.cards ≡ deck_cards text
  pub end : rest.end ≡ deck_end text
  pub fault : rest.fault ≡ deck_fault text

pub left-whole : (text : List ℕ) → IsWhole text (left [] 0 (lines_of text))
unfolding deck_cards deck_end deck_fault line_fault read_lines
left-whole text =
    let all : left [] 0 (lines_of text) ≡ all_of [] (first_fault [] (looked_at 0 (lines_of text))) (looked_at 0 (lines_of text)) (length (lines_of text)) =
    left-all [] 0 (lines_of text) ∙ ap (all_of [] _ _) (omega arith) in
    record { cards = ap (λ l. l.cards) all; end = ap (λ l. l.end) all; fault = ap (λ l. l.fault) all }

-- no line is left
pub left-none : (cards : List Card) (n : ℕ) (text : List ℕ) (start : ℕ) → length text ≤ start → left cards n (lines_of (drop start text)) ≡ over cards (Err (NoEnd n))
left-none cards n text start h = ap (left cards n) (ap lines_of (drop_all start text h) ∙ lines_of-nil)

-- ---- a card that is handed out

over-behind : (card : Card) (cards : List Card) (how : Result ℕ LexFault) → over (card ∷ cards) how ≡ behind card (over cards how)
over-behind card cards (Ok line) = refl
over-behind card cards (Err fault) = refl

listed-some : {A B : Type 0} (f : A → B) (o : Option A) → IsSome o → is_empty (listed (option_map f o)) ≡ false
listed-some f None h = absurd (false≢true h)
listed-some f (Some x) h = refl

pub scan_left-whole : (text : List ℕ) (scan : Scan) (card : Card) (rest : Option Card) → IsScan text scan → scan.pending.whole ≡ Some card → rest ≡ None
    → scan_left text scan ≡ behind card (scan_left text (record scan { pending = record { whole = rest; last = scan.pending.last } }))
scan_left-whole text scan card rest h e none =
    let begun = (subst (λ whole. IfSome whole (λ c. (0 < length c.words) × IsSome scan.pending.last)) e h.pending.whole).1 in
    go scan.over (listed-some draft_card scan.pending.last begun)
  where
    go : (how : Option (Result ℕ LexFault)) → is_empty (listed (option_map draft_card scan.pending.last)) ≡ false
        → scan_left text (record scan { over = how }) ≡ behind card (scan_left text (record scan { pending = record { whole = rest; last = scan.pending.last }; over = how }))
    go None some = rw (e, none) (left-behind card _ scan.number _ some)
    go (Some how) some = rw (e, none) (over-behind card _ how)
