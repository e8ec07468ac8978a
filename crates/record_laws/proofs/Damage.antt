-- An edit makes and mends no fault of a node that is not near it.
use Rattle.std.proofs.Common.{◌≡◌, ◌≢◌, ℕ, zero, suc, ◌≤◌, Bool, true, false, not, ◌&&◌, ◌||◌, ◌==◌, List, [], ◌∷◌, ◌++◌, All, Option, Some, None, refl, sym, ap, ◌∙◌, arith, inl, inr, nat_lt, unsigned_abs, ℤ, pos, ◌+ℤ◌, ◌*ℤ◌}
use Rattle.std.specs.Ordering.{int_eq}
use Rattle.std.specs.List.{fold, list_any}
use Rattle.std.specs.Str.{bytes_eq}
use Rattle.std.proofs.lemmas.Bool.{false≢true, and_parts, and_right, or_parts, or_from, or_left, or_right, cond-true, cond-false, false_from_ne_true, not_from_true}
use Rattle.std.proofs.lemmas.Bool.Decides.{Decides-int_eq}
use Rattle.std.proofs.lemmas.Int.{ints}
use Rattle.std.proofs.lemmas.List.Elements.{All-head, All-tail}
use Rattle.std.proofs.lemmas.List.Folds.{list_any-append}
use Rattle.std.proofs.lemmas.List.Sums.{fold-append}
use Rattle.semantics.specs.declared.fraction.Fraction.{Fraction}
use Rattle.semantics.specs.declared.element.Element.{Element}
use Rattle.semantics.specs.declared.element.Element.TheVariants.{Resistor, Capacitor, Source, Mos}
use Rattle.semantics.specs.Ground.{is_ground}
use Rattle.semantics.specs.Deck.{DeckValue, driver, drives, first_some, total_farads, farads_at, capacity, initial_of}
use Rattle.semantics.specs.Run.{node_current, flow}
use Rattle.semantics.specs.Valid.{is_valid}
use Rattle.semantics.proofs.Limits.{limits}
use Rattle.semantics.specs.Edit.{IsChanged, IsEdit, is_voltage_source, IsNear, restarted, KeepsFree}
use Rattle.semantics.specs.Neighbours.{is_free, is_device, is_end, joins, share}
use Rattle.semantics.specs.Record.{Record, Starts, record_voltages, record_current, start_pair, follows, is_fault}
use Rattle.semantics.proofs.Flows.{ReadAlike, flow_quiet, flows_alike}
use Rattle.semantics.proofs.Free.{free_real, free_undriven, free_ends, free_from, free_held}
use Rattle.semantics.proofs.Levels.{Alike}
use Rattle.semantics.proofs.Neighbours.{voltages_alike, share_end}
use Rattle.record_laws.specs.Laws.{IsValidEdit, IsFar}

-- ---- elements that have nothing to say of a name

none_any : {P : Element → Type 0} (p : Element → Bool) (xs : List Element) → All P xs → ((x : Element) → P x → p x ≡ false) → list_any p xs ≡ false
none_any {P} p [] all fails = refl
none_any {P} p (x ∷ xs) all fails = or_from (p x) (list_any p xs) (fails x (All-head P x xs all)) (none_any p xs (All-tail P x xs all) fails)

joins_quiet : (m n : List ℕ) (xs : List Element) → list_any (is_end n) xs ≡ false → list_any (joins m n) xs ≡ false
joins_quiet m n [] quiet = refl
joins_quiet m n (x ∷ xs) quiet =
    let parts = or_parts (is_end n x) (list_any (is_end n) xs) quiet in
    or_from (joins m n x) (list_any (joins m n) xs) (and_right (is_device x) (is_end m x && is_end n x) (and_right (is_end m x) (is_end n x) parts.0)) (joins_quiet m n xs parts.1)

farads_quiet : (n : List ℕ) (x : Element) → is_end n x ≡ false → farads_at n x ≡ pos 0
farads_quiet n (Capacitor name plus minus farads) off =
    let parts = or_parts (bytes_eq n plus) (bytes_eq n minus || false) off in
    rw (parts.0, (or_parts (bytes_eq n minus) false parts.1).0) refl
farads_quiet n (Resistor name first second ohms) off = refl
farads_quiet n (Source name plus minus wave) off = refl
farads_quiet n (Mos name drain gate source bulk part len width) off = refl

drives_quiet : (n : List ℕ) (x : Element) → (is_voltage_source x && is_end n x) ≡ false → drives n x ≡ None
drives_quiet n (Source name plus minus wave) off =
    let parts = or_parts (bytes_eq n plus) (bytes_eq n minus || false) off in
    rw (parts.0, (or_parts (bytes_eq n minus) false parts.1).0) refl
drives_quiet n (Resistor name first second ohms) off = refl
drives_quiet n (Capacitor name plus minus farads) off = refl
drives_quiet n (Mos name drain gate source bulk part len width) off = refl

no_more : (z : ℤ) → z +ℤ pos 0 ≡ z
no_more z = omega (arith, ints)

-- a sum over elements that add nothing
sum_quiet : (f : Element → ℤ) (n : List ℕ) (xs : List Element) (total : ℤ) → ((x : Element) → is_end n x ≡ false → f x ≡ pos 0) → list_any (is_end n) xs ≡ false → fold (λ sum x. sum +ℤ f x) total xs ≡ total
sum_quiet f n [] total none quiet = refl
sum_quiet f n (x ∷ xs) total none quiet =
    let parts = or_parts (is_end n x) (list_any (is_end n) xs) quiet in
    ap (λ z. fold (λ sum y. sum +ℤ f y) (total +ℤ z) xs) (none x parts.0)
    ∙ ap (λ z. fold (λ sum y. sum +ℤ f y) z xs) (no_more total)
    ∙ sum_quiet f n xs total none parts.1

-- a sum over all elements skips a stretch that adds nothing
sum_skips : (f : Element → ℤ) (n : List ℕ) (before mid after : List Element) → ((x : Element) → is_end n x ≡ false → f x ≡ pos 0) → list_any (is_end n) mid ≡ false
    → fold (λ sum x. sum +ℤ f x) (pos 0) (before ++ (mid ++ after)) ≡ fold (λ sum x. sum +ℤ f x) (fold (λ sum x. sum +ℤ f x) (pos 0) before) after
sum_skips f n before mid after none quiet =
    fold-append (λ sum x. sum +ℤ f x) (pos 0) before (mid ++ after)
    ∙ fold-append (λ sum x. sum +ℤ f x) (fold (λ sum x. sum +ℤ f x) (pos 0) before) mid after
    ∙ ap (λ z. fold (λ sum x. sum +ℤ f x) z after) (sum_quiet f n mid (fold (λ sum x. sum +ℤ f x) (pos 0) before) none quiet)

-- a test of any element skips a stretch that never passes
any_skips : (p : Element → Bool) (before mid after : List Element) → list_any p mid ≡ false → list_any p (before ++ (mid ++ after)) ≡ (list_any p before || list_any p after)
any_skips p before mid after quiet =
    list_any-append p before (mid ++ after) ∙ ap (λ b. list_any p before || b) (list_any-append p mid after ∙ ap (λ b. b || list_any p after) quiet)

-- the first find skips a stretch that finds nothing
first_skips : {B : Type 0} (f : Element → Option B) (p : Element → Bool) (before mid after : List Element) → ((x : Element) → p x ≡ false → f x ≡ None) → list_any p mid ≡ false
    → first_some f (before ++ (mid ++ after)) ≡ first_some f (before ++ after)
first_skips {B} f p [] [] after none quiet = refl
first_skips {B} f p [] (x ∷ mid) after none quiet =
    let parts = or_parts (p x) (list_any p mid) quiet in
    (λ i. elim (none x parts.0 i) as (λ _. Option B) [ None ↦ first_some f (mid ++ after) | Some y ↦ Some y ]) ∙ first_skips f p [] mid after none parts.1
first_skips {B} f p (x ∷ before) mid after none quiet =
    λ i. elim (f x) as (λ _. Option B) [ None ↦ first_skips f p before mid after none quiet i | Some y ↦ Some y ]

-- ---- what an edit leaves

-- a node that is not near: no stretch has it at an end
pub record IsQuiet (old new : DeckValue) (e : IsEdit old new) (n : List ℕ) : Type 0 where
  pub gone : list_any (is_end n) e.gone ≡ false
  pub come : list_any (is_end n) e.come ≡ false
  pub initial : initial_of new n ≡ initial_of old n

same_number : (a b : ℤ) → ((a ≢ b) → ⊥) → b ≡ a
same_number a b h = by (int_eq a b) refl
  where
    by : (c : Bool) → int_eq a b ≡ c → b ≡ a
    by true is = sym ((Decides-int_eq a b).0 is)
    by false is = absurd (h (λ same. false≢true (sym is ∙ (Decides-int_eq a b).1 same)))

far : (old new : DeckValue) (e : IsEdit old new) (n : List ℕ) → (IsNear old new n → ⊥) → IsQuiet old new e n
far old new e n beyond = record {
  gone = none_any (is_end n) e.gone e.lost off;
  come = none_any (is_end n) e.come e.made off;
  initial = same_number (initial_of old n) (initial_of new n) (λ h. beyond (inr (inl h)));
}
  where
    off : (x : Element) → IsChanged old new x → is_end n x ≡ false
    off x changed = false_from_ne_true (is_end n x) (λ end. beyond (inl (record { element = x; changed = changed; end = end })))

-- no stretch drives the name
pub record IsUndriven (old new : DeckValue) (e : IsEdit old new) (m : List ℕ) : Type 0 where
  pub gone : list_any (λ x. is_voltage_source x && is_end m x) e.gone ≡ false
  pub come : list_any (λ x. is_voltage_source x && is_end m x) e.come ≡ false

same_driver : (old new : DeckValue) (e : IsEdit old new) (m : List ℕ) → IsUndriven old new e m → driver new m ≡ driver old m
unfolding driver
same_driver old new e m quiet =
    ap (first_some (drives m)) e.now
    ∙ first_skips (drives m) (λ x. is_voltage_source x && is_end m x) e.before e.come e.after (drives_quiet m) quiet.come
    ∙ sym (first_skips (drives m) (λ x. is_voltage_source x && is_end m x) e.before e.gone e.after (drives_quiet m) quiet.gone)
    ∙ ap (first_some (drives m)) (sym e.was)

same_any : (old new : DeckValue) (e : IsEdit old new) (p : Element → Bool) → list_any p e.gone ≡ false → list_any p e.come ≡ false → list_any p new.elements ≡ list_any p old.elements
same_any old new e p gone come =
    ap (list_any p) e.now ∙ any_skips p e.before e.come e.after come ∙ sym (any_skips p e.before e.gone e.after gone) ∙ ap (list_any p) (sym e.was)

same_farads : (old new : DeckValue) (e : IsEdit old new) (n : List ℕ) → IsQuiet old new e n → total_farads new n ≡ total_farads old n
unfolding total_farads
same_farads old new e n f =
    ap (fold (λ sum x. sum +ℤ farads_at n x) (pos 0)) e.now
    ∙ sum_skips (farads_at n) n e.before e.come e.after (farads_quiet n) f.come
    ∙ sym (sum_skips (farads_at n) n e.before e.gone e.after (farads_quiet n) f.gone)
    ∙ ap (fold (λ sum x. sum +ℤ farads_at n x) (pos 0)) (sym e.was)

-- ---- a far node is as it was

same_capacity : (old new : DeckValue) (e : IsEdit old new) (n : List ℕ) → IsQuiet old new e n → capacity new n ≡ capacity old n
same_capacity old new e n f = ap (λ z. unsigned_abs z) (same_farads old new e n f)

undriven : (old new : DeckValue) (e : IsEdit old new) (n : List ℕ) → IsQuiet old new e n → IsUndriven old new e n
undriven old new e n f = record { gone = alone e.gone f.gone; come = alone e.come f.come }
  where
    alone : (xs : List Element) → list_any (is_end n) xs ≡ false → list_any (λ x. is_voltage_source x && is_end n x) xs ≡ false
    alone [] quiet = refl
    alone (x ∷ xs) quiet =
        let parts = or_parts (is_end n x) (list_any (is_end n) xs) quiet in
        or_from (is_voltage_source x && is_end n x) (list_any (λ y. is_voltage_source y && is_end n y) xs) (and_right (is_voltage_source x) (is_end n x) parts.0) (alone xs parts.1)

was_free : (old new : DeckValue) (e : IsEdit old new) (n : List ℕ) → IsQuiet old new e n → is_free new n ≡ true → is_free old n ≡ true
was_free old new e n f free = free_from old n (free_real new n free)
    (sym (same_any old new e (is_end n) f.gone f.come) ∙ free_ends new n free)
    (sym (same_driver old new e n (undriven old new e n f)) ∙ free_undriven new n free)

-- what an edit leaves of a neighbour of a far node
pub record IsCalm (old new : DeckValue) (e : IsEdit old new) (m : List ℕ) : Type 0 where
  pub undriven : IsUndriven old new e m
  pub initial : initial_of new m ≡ initial_of old m

calm : (old new : DeckValue) (e : IsEdit old new) (n m : List ℕ) → (IsNear old new n → ⊥) → share new m n ≡ true → is_ground m ≡ false → IsCalm old new e m
calm old new e n m beyond joined real = record {
  undriven = record { gone = none_any (λ x. is_voltage_source x && is_end m x) e.gone e.lost off; come = none_any (λ x. is_voltage_source x && is_end m x) e.come e.made off };
  initial = same_number (initial_of old m) (initial_of new m) (λ h. beyond (inr (inr (record { other = m; real = real; joined = joined; change = inl h }))));
}
  where
    off : (x : Element) → IsChanged old new x → (is_voltage_source x && is_end m x) ≡ false
    off x changed = false_from_ne_true (is_voltage_source x && is_end m x) (λ both.
        let parts = and_parts (is_voltage_source x) (is_end m x) both in
        beyond (inr (inr (record { other = m; real = real; joined = joined; change = inr (record { element = x; changed = changed; source = parts.0; end = parts.1 }) }))))

-- ---- records

-- a free node has some capacitance
abbrev pub HasFarads : DeckValue → Type 0
HasFarads d = (n : List ℕ) → is_free d n ≡ true → 1 ≤ capacity d n

pub restarted_first : (new : DeckValue) (keeps : List ℕ → Bool) (w : Record) (n : List ℕ) → is_free new n ≡ true → restarted new keeps w n 0 ≡ start_pair new n
restarted_first new keeps w n free = cond-true (is_free new n) (start_pair new n) (w n 0) free

pub restarted_later : (new : DeckValue) (keeps : List ℕ → Bool) (w : Record) (n : List ℕ) (t : ℕ) → keeps n ≡ true → restarted new keeps w n (suc t) ≡ w n (suc t)
restarted_later new keeps w n t kept = cond-false (is_free new n && not (keeps n)) (start_pair new n) (w n (suc t)) (and_right (is_free new n) (not (keeps n)) (not_from_true (keeps n) kept))

-- a far node has the pairs that it had
far_pair : (old new : DeckValue) (e : IsEdit old new) (keeps : List ℕ → Bool) (w : Record) (n : List ℕ) (t : ℕ) → Starts old w → KeepsFree old keeps → IsQuiet old new e n → is_free new n ≡ true → restarted new keeps w n t ≡ w n t
far_pair old new e keeps w n zero starts kept f free =
    let farads : capacity new n ≡ capacity old n = same_capacity old new e n f in
    restarted_first new keeps w n free ∙ (λ i. record { num = pos (farads i) *ℤ f.initial i; den = farads i }) ∙ sym (starts n (was_free old new e n f free))
far_pair old new e keeps w n (suc t) starts kept f free = restarted_later new keeps w n t (kept n (was_free old new e n f free))

-- a calm node has the voltage that it had
calm_pair : (old new : DeckValue) (keeps : List ℕ → Bool) (w : Record) (m : List ℕ) (t : ℕ) → Starts old w → KeepsFree old keeps → HasFarads old → HasFarads new → is_free old m ≡ true → is_free new m ≡ true → initial_of new m ≡ initial_of old m
    → Alike (restarted new keeps w m t) (w m t)
calm_pair old new keeps w m zero starts kept some_old some_new free_old free_new same = inr (
  capacity new m,
  capacity old m,
  initial_of old m,
  some_new m free_new,
  some_old m free_old,
  restarted_first new keeps w m free_new ∙ (λ i. record { num = pos (capacity new m) *ℤ same i; den = capacity new m }),
  starts m free_old,
)
calm_pair old new keeps w m (suc t) starts kept some_old some_new free_old free_new same = inl (restarted_later new keeps w m t (kept m free_old))

-- ---- currents

shares_same : (old new : DeckValue) (e : IsEdit old new) (n m : List ℕ) → IsQuiet old new e n → share new m n ≡ share old m n
unfolding share
shares_same old new e n m f = same_any old new e (joins m n) (joins_quiet m n e.gone f.gone) (joins_quiet m n e.come f.come)

near_alike : (old new : DeckValue) (e : IsEdit old new) (keeps : List ℕ → Bool) (w : Record) (n m : List ℕ) (t : ℕ) → Starts old w → KeepsFree old keeps → HasFarads old → HasFarads new → (IsNear old new n → ⊥) → IsQuiet old new e n → share new m n ≡ true
    → Alike (record_voltages new (restarted new keeps w) t m) (record_voltages old w t m)
near_alike old new e keeps w n m t starts kept some_old some_new beyond f joined =
    voltages_alike new old t (λ k. restarted new keeps w k t) (λ k. w k t) m (λ real. same_driver old new e m (calm old new e n m beyond joined real).undriven) (λ real none.
    let c : IsCalm old new e m = calm old new e n m beyond joined real in
    let free_new : is_free new m ≡ true = free_from new m real (share_end new m n joined) none in
    let free_old : is_free old m ≡ true = free_from old m real (share_end old m n (sym (shares_same old new e n m f) ∙ joined)) (sym (same_driver old new e m c.undriven) ∙ none) in
    calm_pair old new keeps w m t starts kept some_old some_new free_old free_new c.initial)

same_current : (old new : DeckValue) (e : IsEdit old new) (v w : List ℕ → Fraction) (n : List ℕ) → IsQuiet old new e n → ((m : List ℕ) → share new m n ≡ true → Alike (v m) (w m))
    → node_current new v n ≡ node_current old w n
unfolding node_current share
same_current old new e v w n f near =
    ap (fold (λ sum x. sum +ℤ flow new v n x) (pos 0)) e.now
    ∙ sum_skips (flow new v n) n e.before e.come e.after (flow_quiet new v n) f.come
    ∙ flows_alike new old v w n e.after (fold (λ sum x. sum +ℤ flow new v n x) (pos 0) e.before) reads (λ m h. near m (joined m (or_right _ _ h)))
    ∙ ap (λ z. fold (λ sum x. sum +ℤ flow old w n x) z e.after) (flows_alike new old v w n e.before (pos 0) reads (λ m h. near m (joined m (or_left _ _ h))))
    ∙ sym (sum_skips (flow old w n) n e.before e.gone e.after (flow_quiet old w n) f.gone)
    ∙ ap (fold (λ sum x. sum +ℤ flow old w n x) (pos 0)) (sym e.was)
  where
    reads : ReadAlike new old
    reads = record { grain = e.frame.grain; parts = e.frame.parts }

    joined : (m : List ℕ) → (list_any (joins m n) e.before || list_any (joins m n) e.after) ≡ true → list_any (joins m n) new.elements ≡ true
    joined m h = ap (list_any (joins m n)) e.now ∙ any_skips (joins m n) e.before e.come e.after (joins_quiet m n e.come f.come) ∙ h

-- ---- faults

same_follows : (old new : DeckValue) (v w : Record) (n : List ℕ) (t : ℕ) → v n t ≡ w n t → v n (suc t) ≡ w n (suc t) → capacity new n ≡ capacity old n → record_current new v t n ≡ record_current old w t n → follows new v n t ≡ follows old w n t
unfolding follows
same_follows old new v w n t now next farads flows =
    λ i. ((now i).den == farads i) && (((next i).den == farads i) && int_eq (next i).num ((now i).num +ℤ flows i))

pub damages : (old new : DeckValue) (keeps : List ℕ → Bool) (w : Record) → HasFarads old → HasFarads new → IsEdit old new → Starts old w → KeepsFree old keeps
    → (n : List ℕ) (t : ℕ) → is_free new n ≡ true → (IsNear old new n → ⊥) → is_fault new (restarted new keeps w) n t ≡ is_fault old w n t
unfolding is_fault
damages old new keeps w some_old some_new e starts kept n t free beyond =
    let f : IsQuiet old new e n = far old new e n beyond in
    let flows : record_current new (restarted new keeps w) t n ≡ record_current old w t n =
    same_current old new e (record_voltages new (restarted new keeps w) t) (record_voltages old w t) n f (λ m joined. near_alike old new e keeps w n m t starts kept some_old some_new beyond f joined) in
    let same : follows new (restarted new keeps w) n t ≡ follows old w n t =
    same_follows old new (restarted new keeps w) w n t (far_pair old new e keeps w n t starts kept f free) (far_pair old new e keeps w n (suc t) starts kept f free) (same_capacity old new e n f) flows in
    let both : is_free new n ≡ is_free old n = free ∙ sym (was_free old new e n f free) in
    λ i. (both i && nat_lt t (e.frame.stop i)) && not (same i)

-- ---- a valid deck

pub valid_farads : (d : DeckValue) → is_valid d ≡ true → HasFarads d
valid_farads d valid n free = (free_held d (limits d valid) n free).some

pub damages_valid : (old new : DeckValue) (keeps : List ℕ → Bool) (w : Record) → IsValidEdit old new → Starts old w → KeepsFree old keeps → (n : List ℕ) (t : ℕ) → IsFar old new n
    → is_fault new (restarted new keeps w) n t ≡ is_fault old w n t
damages_valid old new keeps w e starts kept n t far' = damages old new keeps w (valid_farads old e.old_valid) (valid_farads new e.new_valid) e.edit starts kept n t far'.free far'.beyond
