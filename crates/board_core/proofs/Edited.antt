-- What one edit more leaves of a board and its versions.
use Rattle.std.proofs.Common.{◌≡◌, ℕ, ◌≤◌, ◌+◌, Bool, true, false, ◌&&◌, List, [], ◌∷◌, ◌++◌, length, take, Option, Some, None, is_none, refl, sym, ap, ◌∙◌, arith}
use Rattle.std.proofs.lemmas.List.{length-append, take-append-le, take_all}
use Rattle.semantics.specs.Deck.{DeckValue}
use Rattle.deck_cards.specs.declared.edit.Edit.{Edit}
use Rattle.deck_cards.specs.Edits.{accepts, after, edit_cause, edited}
use Rattle.edit_laws.proofs.After.{accepts_more, after_more}
use Rattle.version_book.specs.Version.{VersionValue}
use Rattle.board_core.specs.Board.{version, IsBoard, IsVersionOf}

-- the version after these edits
abbrev pub version_after : DeckValue → List Edit → VersionValue
version_after base es = record { base = base; edits = es; deck = after base es }

pub after_none : (base : DeckValue) → after base [] ≡ base
unfolding after
after_none base = refl

pub accepts_none : (base : DeckValue) → accepts base [] ≡ true
unfolding accepts
accepts_none base = refl

-- a version of the first edits stays one where one edit more is made
pub same_version : (base : DeckValue) (es : List Edit) (e : Edit) (k : ℕ) → k ≤ length es → version base (es ++ e ∷ []) k ≡ version base es k
same_version base es e k le = ap (version_after base) (take-append-le k es (e ∷ []) le)

pub version_more : (base : DeckValue) (es : List Edit) (e : Edit) (v : VersionValue) → IsVersionOf base es v → IsVersionOf base (es ++ e ∷ []) v
version_more base es e v h =
    let within = h.within in
    let longer = length-append es (e ∷ []) in
    record {
      is = h.is ∙ sym (same_version base es e (length v.edits) h.within);
      within = omega (arith, within, longer);
    }

-- and so does the board where the edit is accepted
pub board_more : (base : DeckValue) (es : List Edit) (e : Edit) (d next : DeckValue) (v : VersionValue)
    → IsBoard base es d v → edit_cause d e ≡ None → next ≡ edited d e → IsBoard base (es ++ e ∷ []) next v
board_more base es e d next v h free is = record {
  accepted = accepts_more base es e ∙ rw (h.accepted, sym h.deck_is, free) refl;
  deck_is = is ∙ ap (λ x. edited x e) h.deck_is ∙ sym (after_more base es e);
  shown_is = version_more base es e v h.shown_is;
}

-- the version of all edits
pub version_whole : (base : DeckValue) (es : List Edit) (d : DeckValue) (v : VersionValue)
    → d ≡ after base es → v ≡ record { base = base; edits = es; deck = d } → IsVersionOf base es v
version_whole base es d v is whole =
    let all : take (length es) es ≡ es = take_all (length es) es (omega arith) in
    let edits : v.edits ≡ es = ap (λ (x : VersionValue). x.edits) whole in
    let count : length v.edits ≡ length es = ap (λ (xs : List Edit). length xs) edits in
    record {
      is = whole ∙ ap (λ (x : DeckValue). record { base = base; edits = es; deck = x }) is
          ∙ sym (ap (version_after base) (ap (λ n. take n es) count ∙ all));
      within = omega (arith, count);
    }
