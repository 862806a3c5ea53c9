-- The figures of documents 01 and 02: a plan's length, for every header, and its length and rounds for the largest ones; and where method 3's regions
-- begin. Rests on the plans' weights.
use mathlib.Core.Path.{◌≡◌, refl, ap, ◌∙◌}
use mathlib.Core.List.{[], ◌∷◌}
use Prim.Native.Nat.{ℕ, zero, suc, ◌+◌, ◌-◌, ◌*◌, ◌<◌, ◌≤◌}
use native.Mathlib.Nat.{mul-sub}
use native.Mathlib.Omega.{arith}
use lib.ListN.{length}
use Rattle.machine.specs.Log.{sum_of}
use Rattle.plans.specs.declared.Header.{Header}
use Rattle.plans.specs.Limits.{far}
use Rattle.plans.specs.Outline.{start}
use Rattle.plans.specs.Method1 as Method1
use Rattle.plans.specs.Method2 as Method2
use Rattle.plans.specs.Method3 as Method3
use Rattle.plans.specs.Method4 as Method4
use Rattle.plans.specs.Method5 as Method5
use Rattle.plans.specs.Plan.{Accepted, instructions_of, plan_of, length_of, rounds_of_plan}
use Rattle.plans.proofs.Blocks.{sum_ones}
use Rattle.plans.proofs.Weights.{outline_weight_is}
use Rattle.plans.proofs.Bounds.{square_le, cube_le, edges_le}
use Rattle.plans.proofs.Headers.{header, each_method, plan_length_is}

-- ---- lengths: an instruction weighs 1

length1 : (name : (region place : ℕ) → ℕ) (n m source : ℕ) → 0 < n
    → sum_of (λ i. 1) (Method1.plan name far n m source) + 1 ≡ 3 * n + 4 + m * (8 * (n * n) + 3 * n - 1)
unfolding Method1.plan sum_of
length1 name zero m source some = elim some [ ]
length1 name (suc n) m source some =
    let e : suc n - 1 ≡ n = omega arith in
    ap (λ k. k + 1) (outline_weight_is name far (suc n) m source (λ op. 1) Method1.outline start) ∙ simp (e, mul-sub) (omega arith)

length3 : (name : (region place : ℕ) → ℕ) (n m source : ℕ) → 0 < n
    → sum_of (λ i. 1) (Method3.plan name far n m source) + 1 ≡ 3 * (n * n) + 3 * n + 5 + m * (3 * (n * n) + 10 * n - 1)
unfolding Method3.plan sum_of
length3 name zero m source some = elim some [ ]
length3 name (suc n) m source some =
    let e : suc n - 1 ≡ n = omega arith in
    ap (λ k. k + 1) (outline_weight_is name far (suc n) m source (λ op. 1) Method3.outline start) ∙ simp (e, mul-sub) (omega arith)

length5 : (name : (region place : ℕ) → ℕ) (n m source : ℕ) → 0 < n
    → sum_of (λ i. 1) (Method5.plan name far n m source) + 1 ≡ 3 * (n * n) + 2 * n + 4 + m * (8 * (n * n) + 5 * n)
unfolding Method5.plan sum_of
length5 name zero m source some = elim some [ ]
length5 name (suc n) m source some =
    let e : suc n - 1 ≡ n = omega arith in
    ap (λ k. k + 1) (outline_weight_is name far (suc n) m source (λ op. 1) Method5.outline start) ∙ simp (e, mul-sub) (omega arith)

lengths : (h : Header) → Accepted h → sum_of (λ i. 1) (instructions_of h) + 1 ≡ length_of h
unfolding instructions_of length_of Method2.plan Method4.plan sum_of
lengths =
    each_method (λ h. sum_of (λ i. 1) (instructions_of h) + 1 ≡ length_of h)
    (λ n m source a. length1 _ n m source a.vertices_some)
    (λ n source a. ap (λ k. k + 1) (outline_weight_is _ far n 0 source (λ op. 1) Method2.outline start) ∙ omega arith)
    (λ n m source a. length3 _ n m source a.vertices_some)
    (λ n m a. ap (λ k. k + 1) (outline_weight_is _ far n m 0 (λ op. 1) Method4.outline start) ∙ omega arith)
    (λ n m source a. length5 _ n m source a.vertices_some)

pub length_plan : (h : Header) → Accepted h → length (plan_of h) ≡ length_of h
length_plan h a = omega (arith, plan_length_is h, sum_ones (instructions_of h), lengths h a)

-- No plan is longer than the largest one of method 5.
pub length_most : (h : Header) → Accepted h → length_of h ≤ 1072196
unfolding length_of
length_most =
    each_method (λ h. length_of h ≤ 1072196)
    (λ n m source a.
    let square = square_le n a.vertices_few in
    omega (arith, edges_le m a.edges_few (8 * (n * n) + 3 * n - 1) 8287 (omega (arith, a.vertices_few)), a.vertices_few))
    (λ n source a. omega (arith, square_le n (omega arith), cube_le n (omega arith), a.vertices_few))
    (λ n m source a.
    let square = square_le n a.vertices_few in
    omega (arith, edges_le m a.edges_few (3 * (n * n) + 10 * n - 1) 3391 (omega (arith, a.vertices_few)), a.vertices_few))
    (λ n m a.
    let square = square_le n a.vertices_few in
    let cube = cube_le n a.vertices_few in
    omega (arith, edges_le m a.edges_few (3 * (n * n) + 6 * n) 3264 (omega (arith, a.vertices_few)), a.vertices_few))
    (λ n m source a.
    let square = square_le n a.vertices_few in
    omega (arith, edges_le m a.edges_few (8 * (n * n) + 5 * n) 8352 (omega (arith, a.vertices_few)), a.vertices_few))

-- ---- the largest plans

pub largest1 : (s : ℕ) → (length_of (header 1 32 128 s) ≡ 1060836) × (rounds_of_plan (header 1 32 128 s) ≡ 166832)
unfolding length_of rounds_of_plan
largest1 s = (refl, refl)

pub largest2 : (s : ℕ) → (length_of (header 2 32 0 s) ≡ 44227) × (rounds_of_plan (header 2 32 0 s) ≡ 9633)
unfolding length_of rounds_of_plan
largest2 s = (refl, refl)

pub largest3 : (s : ℕ) → (length_of (header 3 32 128 s) ≡ 437221) × (rounds_of_plan (header 3 32 128 s) ≡ 38151)
unfolding length_of rounds_of_plan
largest3 s = (refl, refl)

pub largest4 : (s : ℕ) → (length_of (header 4 32 128 s) ≡ 521371) × (rounds_of_plan (header 4 32 128 s) ≡ 1136)
unfolding length_of rounds_of_plan
largest4 s = (refl, refl)

pub largest5 : (s : ℕ) → (length_of (header 5 32 128 s) ≡ 1072196) × (rounds_of_plan (header 5 32 128 s) ≡ 166832)
unfolding length_of rounds_of_plan
largest5 s = (refl, refl)

-- Method 3's plan is shorter than method 1's from two vertices and three edges on, the largest ones among them.
pub shorter3 : (n m s : ℕ) → length_of (header 3 (n + 2) (m + 3) s) < length_of (header 1 (n + 2) (m + 3) s)
unfolding length_of
shorter3 n m s = simp mul-sub (omega arith)

-- ---- the cells of method 3, as the ask has them: from, B (and after it to), price, D, P, Y, N, Q, X, S, F, T

pub starts3 : (n m : ℕ) → Method3.starts n m
    ≡ 0
    ∷ m
    ∷ (2 * m + 1)
    ∷ (3 * m + 1)
    ∷ (3 * m + n + 1)
    ∷ (3 * m + 2 * n + 1)
    ∷ (3 * m + 3 * n + 1)
    ∷ (3 * m + 4 * n + 1)
    ∷ (3 * m + 5 * n + 1)
    ∷ (3 * m + 5 * n + 10)
    ∷ (4 * m + 5 * n + 10)
    ∷ (n * m + 4 * m + 5 * n + 10)
    ∷ []
starts3 n m =
    let p : 3 * m + 1 + n ≡ 3 * m + n + 1 = omega arith in
    let y : 3 * m + 1 + 2 * n ≡ 3 * m + 2 * n + 1 = omega arith in
    let k : 3 * m + 1 + 3 * n ≡ 3 * m + 3 * n + 1 = omega arith in
    let q : 3 * m + 1 + 4 * n ≡ 3 * m + 4 * n + 1 = omega arith in
    let x : 3 * m + 1 + 5 * n ≡ 3 * m + 5 * n + 1 = omega arith in
    let s : 3 * m + 1 + 5 * n + 9 ≡ 3 * m + 5 * n + 10 = omega arith in
    let f : 3 * m + 1 + 5 * n + 9 + m ≡ 4 * m + 5 * n + 10 = omega arith in
    let t : 3 * m + 1 + 5 * n + 9 + m + n * m ≡ n * m + 4 * m + 5 * n + 10 = omega arith in
    λ i. 0 ∷ m ∷ (2 * m + 1) ∷ (3 * m + 1) ∷ p i ∷ y i ∷ k i ∷ q i ∷ x i ∷ s i ∷ f i ∷ t i ∷ []

-- .. and of method 5: from, to, price, D, P, Y and X as in method 1, then Z, B and R

pub starts5 : (n m : ℕ) → Method5.starts n m
    ≡ 0
    ∷ m
    ∷ (2 * m)
    ∷ (3 * m)
    ∷ (3 * m + n)
    ∷ (3 * m + 2 * n)
    ∷ (3 * m + 3 * n)
    ∷ (3 * m + 3 * n + 8)
    ∷ (3 * m + 3 * n + 9)
    ∷ (3 * m + 4 * n + 9)
    ∷ []
starts5 n m = refl
