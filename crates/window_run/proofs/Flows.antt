-- What flows into a node, as sums over the devices.
use Rattle.std.proofs.Common.{◌≡◌, ◌≢◌, ℕ, zero, suc, ◌+◌, ◌-◌, ◌*◌, ◌^◌, ◌<◌, ◌≤◌, Bool, true, false, cond, eqb, List, [], ◌∷◌, ◌++◌, length, get_or, set, refl, sym, ap, ◌∙◌, arith, ℤ, pos, ◌+ℤ◌, ◌-ℤ◌, unsigned_abs, to_z, of_z, subst, ⊎_elim, inl, inr}
use Rattle.std.specs.Prelude.{◌⊎◌}
use Rattle.std.specs.List.{Contains}
use Rattle.std.specs.Int.{w64, w128}
use Rattle.std.proofs.lemmas.Int.{ints, to_z-of_z, fits_signed_from_abs}
use Rattle.std.proofs.lemmas.Bool.{cases_eq, eq-eqb, ne_eqb}
use Rattle.std.proofs.lemmas.List.{get_or-set_same, get_or-set_other}
use Rattle.window_run.specs.Net.{Net, Cells, End, IsNet, inflow, inflows, leads_to}
use Rattle.window_run.specs.Stage.{AmpsAre, Keeps, RateSameOrNoted, RatesAre, no_cells}

-- currents that agree
pub same_flows : (net : Net) (i : ℕ) (a b : ℕ → ℤ) (n : ℕ) → ((k : ℕ) → k < n → a k ≡ b k) → inflows net i a n ≡ inflows net i b n
same_flows net i a b zero same = refl
same_flows net i a b (suc n) same = let here : a n ≡ b n = same n (omega arith) in rw (here, same_flows net i a b n (λ k h. same k (omega (arith, h)))) refl

-- ---- one device's current in the sum

no_change : (x : ℤ) (b c : Bool) → x ≡ x +ℤ ((cond b (pos 0) (pos 0)) -ℤ (cond c (pos 0) (pos 0)))
no_change x true true = omega (arith, ints)
no_change x true false = omega (arith, ints)
no_change x false true = omega (arith, ints)
no_change x false false = omega (arith, ints)

carried : (w r g : ℤ) → (w +ℤ g) +ℤ r ≡ (w +ℤ r) +ℤ g
carried w r g = omega (arith, ints)

moved : (b c : Bool) (s x y : ℤ) → s +ℤ ((cond b y (pos 0)) -ℤ (cond c y (pos 0))) ≡ (s +ℤ ((cond b x (pos 0)) -ℤ (cond c x (pos 0)))) +ℤ ((cond b (y -ℤ x) (pos 0)) -ℤ (cond c (y -ℤ x) (pos 0)))
moved true true s x y = omega (arith, ints)
moved true false s x y = omega (arith, ints)
moved false true s x y = omega (arith, ints)
moved false false s x y = omega (arith, ints)

at_other : (bs : List ℤ) (k j : ℕ) (y : ℤ) → j ≢ k → get_or (set bs k y) j (pos 0) ≡ get_or bs j (pos 0)
at_other bs k j y n = get_or-set_other bs k j y (pos 0) n

-- a device with another current moves the sum by the difference
pub flow_swap : (net : Net) (i : ℕ) (bs : List ℤ) (k : ℕ) (y : ℤ) (n : ℕ) → k < n → k < length bs →
    inflows net i (λ j. get_or (set bs k y) j (pos 0)) n ≡ inflows net i (λ j. get_or bs j (pos 0)) n +ℤ inflow net i k (y -ℤ get_or bs k (pos 0))
flow_swap net i bs k y zero h inside = absurd (omega (arith, h))
flow_swap net i bs k y (suc n) h inside = ⊎_elim
    (λ (e : k ≡ n). rw (← e) (
    ap (λ s. s +ℤ inflow net i k (get_or (set bs k y) k (pos 0))) (same_flows net i (λ j. get_or (set bs k y) j (pos 0)) (λ j. get_or bs j (pos 0)) k (λ j l. at_other bs k j y (λ (f : j ≡ k). omega (arith, f, l))))
    ∙ ap (λ z. inflows net i (λ j. get_or bs j (pos 0)) k +ℤ inflow net i k z) (get_or-set_same bs k y (pos 0) inside)
    ∙ moved (leads_to i (net.second k)) (leads_to i (net.first k)) (inflows net i (λ j. get_or bs j (pos 0)) k) (get_or bs k (pos 0)) y))
    (λ (f : k ≢ n).
    ap (λ s. s +ℤ inflow net i n (get_or (set bs k y) n (pos 0))) (flow_swap net i bs k y n (omega (arith, h, f)) inside)
    ∙ ap (λ z. (inflows net i (λ j. get_or bs j (pos 0)) n +ℤ inflow net i k (y -ℤ get_or bs k (pos 0))) +ℤ inflow net i n z) (at_other bs k n y (λ e. f (sym e)))
    ∙ carried (inflows net i (λ j. get_or bs j (pos 0)) n) (inflow net i n (get_or bs n (pos 0))) (inflow net i k (y -ℤ get_or bs k (pos 0))))
    (cases_eq k n)

-- a device without a known current lets nothing flow
pub flows_none : (net : Net) (i n : ℕ) → inflows net i (λ j. get_or [] j (pos 0)) n ≡ pos 0
flows_none net i zero = refl
flows_none net i (suc n) = sym (no_change (inflows net i (λ j. get_or [] j (pos 0)) n) (leads_to i (net.second n)) (leads_to i (net.first n))) ∙ flows_none net i n

-- ---- lists that grow

pub front : {A : Type 0} (xs : List A) (x d : A) (k : ℕ) → k < length xs → get_or (xs ++ x ∷ []) k d ≡ get_or xs k d
front [] x d k h = absurd (omega (arith, h))
front (y ∷ xs) x d zero h = refl
front (y ∷ xs) x d (suc k) h = front xs x d k (omega (arith, h))

pub back : {A : Type 0} (xs : List A) (x d : A) (k : ℕ) → k ≡ length xs → get_or (xs ++ x ∷ []) k d ≡ x
back [] x d zero e = refl
back [] x d (suc k) e = absurd (omega (arith, e))
back (y ∷ xs) x d zero e = absurd (omega (arith, e))
back (y ∷ xs) x d (suc k) e = back xs x d k (omega (arith, e))

-- the current of the next device comes to the sum
pub flows_push : (net : Net) (i : ℕ) (bs : List ℤ) (y : ℤ) (n : ℕ) → length bs ≡ n → inflows net i (λ j. get_or (bs ++ y ∷ []) j (pos 0)) (suc n) ≡ inflows net i (λ j. get_or bs j (pos 0)) n +ℤ inflow net i n y
flows_push net i bs y n e =
    ap (λ s. s +ℤ inflow net i n (get_or (bs ++ y ∷ []) n (pos 0))) (same_flows net i (λ j. get_or (bs ++ y ∷ []) j (pos 0)) (λ j. get_or bs j (pos 0)) n (λ j l. front bs y (pos 0) j (omega (arith, e, l))))
    ∙ ap (λ z. inflows net i (λ j. get_or bs j (pos 0)) n +ℤ inflow net i n z) (back bs y (pos 0) n (sym e))

-- ---- how much can flow

small_two : (b c : Bool) (x : ℤ) → unsigned_abs x ≤ 10 ^ 12 → unsigned_abs ((cond b x (pos 0)) -ℤ (cond c x (pos 0))) ≤ 2 * 10 ^ 12
small_two true true x h = omega (arith, ints)
small_two true false x h = omega (arith, ints, h)
small_two false true x h = omega (arith, ints, h)
small_two false false x h = omega (arith, ints)

sum_small : (x y : ℤ) (n : ℕ) → unsigned_abs x ≤ 2 * 10 ^ 12 * n → unsigned_abs y ≤ 2 * 10 ^ 12 → unsigned_abs (x +ℤ y) ≤ 2 * 10 ^ 12 * suc n
sum_small x y n hx hy = omega (arith, ints, hx, hy)

pub flows_small : (net : Net) (i : ℕ) (a : ℕ → ℤ) (n : ℕ) → ((k : ℕ) → k < n → unsigned_abs (a k) ≤ 10 ^ 12) → unsigned_abs (inflows net i a n) ≤ 2 * 10 ^ 12 * n
flows_small net i a zero small = omega (arith, ints)
flows_small net i a (suc n) small = sum_small (inflows net i a n) (inflow net i n (a n)) n (flows_small net i a n (λ k h. small k (omega (arith, h)))) (small_two (leads_to i (net.second n)) (leads_to i (net.first n)) (a n) (small n (omega arith)))

pub amps_small : (net : Net) (cs : List Cells) (bs : List ℤ) → IsNet net → AmpsAre net cs bs → (k : ℕ) → k < net.devices → unsigned_abs (get_or bs k (pos 0)) ≤ 10 ^ 12
amps_small net cs bs is amps k h = rw (amps k h) (is.small k (get_or cs k no_cells) h)

past : (xs : List ℤ) (j : ℕ) → length xs ≤ j → get_or xs j (pos 0) ≡ pos 0
past [] j h = refl
past (x ∷ xs) zero h = absurd (omega (arith, h))
past (x ∷ xs) (suc j) h = past xs j (omega (arith, h))

split : (a b : ℕ) → (a < b) ⊎ (b ≤ a)
split zero zero = inr (omega arith)
split zero (suc b) = inl (omega arith)
split (suc a) zero = inr (omega arith)
split (suc a) (suc b) = ⊎_elim (λ (h : a < b). inl (omega (arith, h))) (λ (h : b ≤ a). inr (omega (arith, h))) (split a b)

-- through the first n devices no rate comes above this
pub up_to_small : (net : Net) (bs rates : List ℤ) (i n : ℕ) → IsNet net → n ≤ net.devices → length rates ≡ net.nodes → ((k : ℕ) → k < n → unsigned_abs (get_or bs k (pos 0)) ≤ 10 ^ 12) →
    ((j : ℕ) → j < net.nodes → get_or rates j (pos 0) ≡ inflows net j (λ k. get_or bs k (pos 0)) n) → unsigned_abs (get_or rates i (pos 0)) ≤ 10 ^ 18
up_to_small net bs rates i n is h count small are = ⊎_elim
    (λ (l : i < net.nodes). rw (are i l) (let f = flows_small net i (λ k. get_or bs k (pos 0)) n small in let few = is.few in omega (arith, few, f, h)))
    (λ (l : net.nodes ≤ i). rw (past rates i (omega (arith, l, count))) (omega (arith, ints)))
    (split i net.nodes)

pub rates_small : (net : Net) (cs : List Cells) (bs rates : List ℤ) (i : ℕ) → IsNet net → length rates ≡ net.nodes → AmpsAre net cs bs → RatesAre net bs rates → unsigned_abs (get_or rates i (pos 0)) ≤ 10 ^ 18
rates_small net cs bs rates i is count amps are = up_to_small net bs rates i net.devices is (omega arith) count (amps_small net cs bs is amps) are

pub gain_small : (a b : ℤ) → unsigned_abs a ≤ 10 ^ 12 → unsigned_abs b ≤ 10 ^ 12 → unsigned_abs (a -ℤ b) ≤ 2 * 10 ^ 12
gain_small a b ha hb = omega (arith, ints, ha, hb)

-- as the code takes it away and adds it
pub through : (second first : Bool) (rate gain : ℤ) → (rate +ℤ (cond first ((pos 0) -ℤ gain) (pos 0))) +ℤ (cond second gain (pos 0)) ≡ rate +ℤ ((cond second gain (pos 0)) -ℤ (cond first gain (pos 0)))
through true true rate gain = omega (arith, ints)
through true false rate gain = omega (arith, ints)
through false true rate gain = omega (arith, ints)
through false false rate gain = omega (arith, ints)

-- ---- as the code keeps it

pub kept_amps : (x : ℤ) → unsigned_abs x ≤ 10 ^ 12 → to_z w64 (of_z w64 x) ≡ x
kept_amps x h = to_z-of_z w64 x (fits_signed_from_abs w64 x (omega (arith, h)))

pub kept_wide : (x : ℤ) → unsigned_abs x ≤ 2 * 10 ^ 12 → to_z w128 (of_z w128 x) ≡ x
kept_wide x h = to_z-of_z w128 x (fits_signed_from_abs w128 x (omega (arith, h)))

pub gain_kept : (a b : ℤ) → unsigned_abs a ≤ 10 ^ 12 → unsigned_abs b ≤ 10 ^ 12 → to_z w128 (of_z w128 (to_z w128 (of_z w128 a) -ℤ to_z w128 (of_z w128 b))) ≡ a -ℤ b
gain_kept a b ha hb = rw (kept_wide a (omega (arith, ha)), kept_wide b (omega (arith, hb))) (kept_wide (a -ℤ b) (gain_small a b ha hb))

-- ---- one device more

pub rates_push : (net : Net) (i : ℕ) (bs : List ℤ) (y r : ℤ) (n m : ℕ) → length bs ≡ n → m ≡ suc n → r ≡ inflows net i (λ j. get_or bs j (pos 0)) n +ℤ inflow net i n y → r ≡ inflows net i (λ j. get_or (bs ++ y ∷ []) j (pos 0)) m
rates_push net i bs y r n m e f is = is ∙ sym (flows_push net i bs y n e) ∙ ap (inflows net i (λ j. get_or (bs ++ y ∷ []) j (pos 0))) (sym f)

-- a device that has a new cell has its current
pub amps_set : (net : Net) (cs : List Cells) (bs : List ℤ) (k : ℕ) (c : Cells) (y : ℤ) → k < length cs → k < length bs → y ≡ net.amps k c → AmpsAre net cs bs → AmpsAre net (set cs k c) (set bs k y)
amps_set net cs bs k c y inside within is old = λ j h. ⊎_elim
    (λ (e : j ≡ k). rw (e, get_or-set_same bs k y (pos 0) within, get_or-set_same cs k c no_cells inside) is)
    (λ (n : j ≢ k). rw (get_or-set_other bs k j y (pos 0) n, get_or-set_other cs k j c no_cells n) (old j h))
    (cases_eq j k)

pub rates_set : (net : Net) (bs old new : List ℤ) (k : ℕ) (y : ℤ) → k < net.devices → k < length bs → ((i : ℕ) → get_or new i (pos 0) ≡ get_or old i (pos 0) +ℤ inflow net i k (y -ℤ get_or bs k (pos 0))) → RatesAre net bs old → RatesAre net (set bs k y) new
rates_set net bs old new k y h inside gains are = λ i below. gains i ∙ ap (λ z. z +ℤ inflow net i k (y -ℤ get_or bs k (pos 0))) (are i below) ∙ sym (flow_swap net i bs k y net.devices h inside)

-- what was noted, and what is noted now
pub noted_more : (first old new : List ℤ) (was now : List ℕ) → RateSameOrNoted first old was → RateSameOrNoted old new now → Keeps was now → RateSameOrNoted first new now
noted_more first old new was now before more kept = λ i. ⊎_elim
    (λ (e : get_or new i (pos 0) ≡ get_or old i (pos 0)). ⊎_elim (λ (f : get_or old i (pos 0) ≡ get_or first i (pos 0)). inl (e ∙ f)) (λ (has : Contains was i). inr (kept i has)) (before i))
    (λ (has : Contains now i). inr has)
    (more i)

-- the devices up to one more are in their cells
pub up_to_more : (P : ℕ → Type 0) (n : ℕ) → ((k : ℕ) → k < n → P k) → P n → (k : ℕ) → k < n + 1 → P k
up_to_more P n all here k h = ⊎_elim (λ (e : k ≡ n). subst P (sym e) here) (λ (f : k ≢ n). all k (omega (arith, h, f))) (cases_eq k n)
