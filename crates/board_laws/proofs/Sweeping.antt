-- A commit looks at each node that it may put at fault, and what is pending then is in a region.
use Rattle.std.proofs.Common.{◌≡◌, ◌≢◌, ℕ, zero, suc, ◌<◌, length, get_or, Bool, true, false, ◌&&◌, ◌||◌, cond, List, [], ◌∷◌, Option, Some, None, is_none, refl, sym, ap, ◌∙◌, arith}
use Rattle.std.specs.List.{list_any, range_with_len}
use Rattle.std.specs.Str.{bytes_eq}
use Rattle.std.proofs.lemmas.Bool.{and_from, and_parts, or_left, or_right}
use Rattle.std.proofs.lemmas.List.FromFn.{get_or-range_with_len, length-range_with_len}
use Rattle.semantics.specs.declared.element.Element.{Element}
use Rattle.semantics.specs.Deck.{Name, ends_of}
use Rattle.semantics.specs.Neighbours.{is_device, is_end, is_free, joins, share}
use Rattle.semantics.specs.Pending.{Sweeps}
use Rattle.semantics.proofs.Nodes.{same-bytes_eq}
use Rattle.board_laws.specs.Board.{BoardValue}
use Rattle.board_laws.specs.Windows.{WindowValue, gathered, is_mine, is_pending, is_swept, is_written}
use Rattle.board_laws.proofs.Stays.{none_not_some}

-- ---- the swept nodes

among_ends : (among : Name → Bool) (m : Name) (ns : List Name) → among m ≡ true → list_any (bytes_eq m) ns ≡ true
    → list_any among ns ≡ true
among_ends among m [] is at = at
among_ends among m (n ∷ ns) is at = by (bytes_eq m n) refl at (among_ends among m ns is)
  where
    by : (x : Bool) → bytes_eq m n ≡ x → (x || list_any (bytes_eq m) ns) ≡ true
        → (list_any (bytes_eq m) ns ≡ true → list_any among ns ≡ true) → (among n || list_any among ns) ≡ true
    by true same here rest = or_left (among n) (list_any among ns) (ap among (sym (same-bytes_eq m n same)) ∙ is)
    by false same there rest = or_right (among n) (list_any among ns) (rest there)

beside : (among : Name → Bool) (m n : Name) (es : List Element) → among m ≡ true → list_any (joins m n) es ≡ true
    → list_any (λ e. is_device e && (is_end n e && list_any among (ends_of e))) es ≡ true
beside among m n [] is at = at
beside among m n (e ∷ es) is at = by (joins m n e) refl at (beside among m n es is)
  where
    meets : Element → Bool
    meets f = is_device f && (is_end n f && list_any among (ends_of f))

    by : (x : Bool) → joins m n e ≡ x → (x || list_any (joins m n) es) ≡ true
        → (list_any (joins m n) es ≡ true → list_any meets es ≡ true) → (meets e || list_any meets es) ≡ true
    by true joined here rest =
        let device = and_parts (is_device e) (is_end m e && is_end n e) joined in
        let ends = and_parts (is_end m e) (is_end n e) device.1 in
        or_left _ _ (and_from (is_device e) _ device.0
        (and_from (is_end n e) _ ends.1 (among_ends among m (ends_of e) is ends.0)))
    by false joined there rest = or_right _ _ (rest there)

pub sweeps : (b : BoardValue) (r : ℕ) (w : WindowValue) → Sweeps b.deck (is_written b r w) (is_swept b r w)
unfolding share
sweeps b r w = record {
  written = λ n free here. and_from (is_free b.deck n) _ free
      (or_left (is_mine b r w n || is_written b r w n) _ (or_right (is_mine b r w n) (is_written b r w n) here));
  beside = next;
}
  where
    among : Name → Bool
    among k = is_mine b r w k || is_written b r w k

    next : (n m : Name) → is_free b.deck n ≡ true → is_free b.deck m ≡ true → is_written b r w m ≡ true
        → share b.deck m n ≡ true → is_swept b r w n ≡ true
    next n m free_n free_m here joined = and_from (is_free b.deck n) _ free_n (or_right (among n) _
        (beside among m n b.deck.elements (or_right (is_mine b r w m) (is_written b r w m) here) joined))

-- ---- a node with something pending is had by a region

any_at : {A : Type 0} → (p : A → Bool) (xs : List A) (i : ℕ) (x : A) → i < length xs → p (get_or xs i x) ≡ true
    → list_any p xs ≡ true
any_at p [] i x below is = absurd (omega (arith, below))
any_at p (y ∷ ys) zero x below is = or_left (p y) (list_any p ys) is
any_at p (y ∷ ys) (suc i) x below is = or_right (p y) (list_any p ys) (any_at p ys i x (omega (arith, below)) is)

pub met : (p : ℕ → Bool) (n t : ℕ) → t < n → p t ≡ true → list_any p (range_with_len 0 n) ≡ true
met p n t below is =
    let at : get_or (range_with_len 0 n) t 0 ≡ t = get_or-range_with_len 0 n t 0 below ∙ omega arith in
    any_at p (range_with_len 0 n) t 0 (omega (arith, below, length-range_with_len 0 n)) (ap p at ∙ is)

pub has_region : (b c : BoardValue) (r : ℕ) (w : WindowValue) (n : Name) → is_pending c n ≡ true
    → gathered b c r w n ≢ None
has_region b c r w n pending = by (is_mine b r w n) (b.owner n)
  where
    by : (x : Bool) (o : Option ℕ) → cond (x || (is_none o && is_pending c n)) (Some r) o ≢ None
    by true o = none_not_some r
    by false (Some q) = none_not_some q
    by false None = λ none. none_not_some r (ap (λ x. cond x (Some r) None) (sym pending) ∙ none)
