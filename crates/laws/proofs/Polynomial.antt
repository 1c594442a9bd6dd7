-- Identities and inequalities of polynomials over the whole numbers, decided by computation on their expressions.
-- A polynomial in n variables is the list of its coefficients by the first variable, each a polynomial in the others.
use mathlib.Core.Path.{◌≡◌, refl, sym, ◌∙◌, ap, ap₂, subst₂}
use mathlib.Core.List.{List, [], ◌∷◌}
use mathlib.Core.Bool.{Bool, true, false, ◌&&◌}
use Prim.Native.Nat.{ℕ, zero, suc, ◌+◌, ◌*◌, ◌^◌, ◌%◌, ◌≤◌, ◌<◌, zero-le}
use native.Mathlib.Nat.{pow-zero, pow-succ', le_refl, le_trans, le_of_eq, lt_of_le_of_lt, add-le-add}
use native.Mathlib.Nat.{mul-le-mul_left, add-mul-mod_self_left, mod-eq_of_lt, eq_of_mul-eq-mul_left, le-add_right, le-add_left, add_left_cancel, le_antisymm}
use native.Mathlib.Omega.{arith}
use lib.Dec.{T, eqb, leb, eqb→eq, leb→le}

-- ---- expressions
infixl 65 ◌⊕◌
infixl 70 ◌⊗◌
infixr 75 ◌↑◌
infix 80 #◌
pub data E : Type 0 where
  var : ℕ → E
  #◌ : ℕ → E
  ◌⊕◌ ◌⊗◌ : E → E → E
  ◌↑◌ : E → ℕ → E
  nxt : E → E

abbrev pub hd : List ℕ → ℕ
hd [] = 0
hd (x ∷ ρ) = x

abbrev pub tl : List ℕ → List ℕ
tl [] = []
tl (x ∷ ρ) = ρ

abbrev pub nth : ℕ → List ℕ → ℕ → ℕ
nth zero ρ i = 0
nth (suc n) ρ zero = hd ρ
nth (suc n) ρ (suc i) = nth n (tl ρ) i

abbrev pub val : ℕ → E → List ℕ → ℕ
val n (var i) ρ = nth n ρ i
val n (# k) ρ = k
val n (a ⊕ b) ρ = val n a ρ + val n b ρ
val n (a ⊗ b) ρ = val n a ρ * val n b ρ
val n (a ↑ k) ρ = val n a ρ ^ k
val n (nxt a) ρ = suc (val n a ρ)

-- ---- polynomials
abbrev pub P : ℕ → Type 0
P zero = ℕ
P (suc n) = List (P n)

abbrev pub hor : {A : Type 0} → (A → ℕ) → ℕ → List A → ℕ
hor f x [] = 0
hor f x (p ∷ ps) = f p + x * hor f x ps

abbrev pub ev : (n : ℕ) → P n → List ℕ → ℕ
ev zero c ρ = c
ev (suc n) ps ρ = hor (λ (p : P n). ev n p (tl ρ)) (hd ρ) ps

abbrev pub zip : {A : Type 0} → (A → A → A) → List A → List A → List A
zip g [] qs = qs
zip g (p ∷ ps) [] = p ∷ ps
zip g (p ∷ ps) (q ∷ qs) = g p q ∷ zip g ps qs

abbrev pub each : {A : Type 0} → (A → A) → List A → List A
each m [] = []
each m (q ∷ qs) = m q ∷ each m qs

abbrev pub conv : {A : Type 0} → (A → A → A) → (A → A → A) → A → List A → List A → List A
conv a m z [] qs = []
conv a m z (p ∷ ps) [] = []
conv a m z (p ∷ ps) (q ∷ qs) = zip a (each (m p) (q ∷ qs)) (z ∷ conv a m z ps (q ∷ qs))

abbrev pub nil : (n : ℕ) → P n
nil zero = 0
nil (suc n) = []

abbrev pub con : (n : ℕ) → ℕ → P n
con zero c = c
con (suc n) c = con n c ∷ []

abbrev pub add : (n : ℕ) → P n → P n → P n
add zero c d = c + d
add (suc n) ps qs = zip (add n) ps qs

abbrev pub mul : (n : ℕ) → P n → P n → P n
mul zero c d = c * d
mul (suc n) ps qs = conv (add n) (mul n) (nil n) ps qs

abbrev pub ind : (n : ℕ) → ℕ → P n
ind zero i = 0
ind (suc n) zero = nil n ∷ con n 1 ∷ []
ind (suc n) (suc i) = ind n i ∷ []

abbrev pub pow : (n : ℕ) → P n → ℕ → P n
pow n p zero = con n 1
pow n p (suc k) = mul n p (pow n p k)

abbrev pub norm : (n : ℕ) → E → P n
norm n (var i) = ind n i
norm n (# k) = con n k
norm n (a ⊕ b) = add n (norm n a) (norm n b)
norm n (a ⊗ b) = mul n (norm n a) (norm n b)
norm n (a ↑ k) = pow n (norm n a) k
norm n (nxt a) = add n (con n 1) (norm n a)

-- ---- the normal form has the expression's value
module _ {A : Type 0} (f : A → ℕ) (x : ℕ) where
  hor_zip : (g : A → A → A) → ((p q : A) → f (g p q) ≡ f p + f q) → (ps qs : List A) → hor f x (zip g ps qs) ≡ hor f x ps + hor f x qs
  hor_zip g h [] qs = omega arith
  hor_zip g h (p ∷ ps) [] = omega arith
  hor_zip g h (p ∷ ps) (q ∷ qs) = omega (arith, h p q, ap (λ t. x * t) (hor_zip g h ps qs))

  hor_each : (m : A → A) (c : ℕ) → ((q : A) → f (m q) ≡ c * f q) → (qs : List A) → hor f x (each m qs) ≡ c * hor f x qs
  hor_each m c h [] = omega arith
  hor_each m c h (q ∷ qs) = omega (arith, h q, ap (λ t. x * t) (hor_each m c h qs))

  hor_conv : (a m : A → A → A) (z : A) → ((p q : A) → f (a p q) ≡ f p + f q) → ((p q : A) → f (m p q) ≡ f p * f q) → f z ≡ 0 → (ps qs : List A)
      → hor f x (conv a m z ps qs) ≡ hor f x ps * hor f x qs
  hor_conv a m z ha hm hz [] qs = omega arith
  hor_conv a m z ha hm hz (p ∷ ps) [] = omega arith
  hor_conv a m z ha hm hz (p ∷ ps) (q ∷ qs) =
      omega (
        arith,
        hz,
        hor_zip a ha (each (m p) (q ∷ qs)) (z ∷ conv a m z ps (q ∷ qs)),
        hor_each (m p) (f p) (hm p) (q ∷ qs),
        ap (λ t. x * t)
            (hor_conv a m z ha hm hz ps (q ∷ qs)),
      )

ev_nil : (n : ℕ) (ρ : List ℕ) → ev n (nil n) ρ ≡ 0
ev_nil zero ρ = refl
ev_nil (suc n) ρ = refl

ev_con : (n c : ℕ) (ρ : List ℕ) → ev n (con n c) ρ ≡ c
ev_con zero c ρ = refl
ev_con (suc n) c ρ = omega (arith, ev_con n c (tl ρ))

ev_add : (n : ℕ) (p q : P n) (ρ : List ℕ) → ev n (add n p q) ρ ≡ ev n p ρ + ev n q ρ
ev_add zero p q ρ = refl
ev_add (suc n) p q ρ = hor_zip (λ (r : P n). ev n r (tl ρ)) (hd ρ) (add n) (λ r s. ev_add n r s (tl ρ)) p q

ev_mul : (n : ℕ) (p q : P n) (ρ : List ℕ) → ev n (mul n p q) ρ ≡ ev n p ρ * ev n q ρ
ev_mul zero p q ρ = refl
ev_mul (suc n) p q ρ =
    hor_conv (λ (r : P n). ev n r (tl ρ)) (hd ρ) (add n) (mul n) (nil n) (λ r s. ev_add n r s (tl ρ)) (λ r s. ev_mul n r s (tl ρ)) (ev_nil n (tl ρ)) p q

ev_ind : (n i : ℕ) (ρ : List ℕ) → ev n (ind n i) ρ ≡ nth n ρ i
ev_ind zero i ρ = refl
ev_ind (suc n) zero ρ = omega (arith, ev_nil n (tl ρ), ap (λ t. hd ρ * t) (ev_con n 1 (tl ρ)))
ev_ind (suc n) (suc i) ρ = omega (arith, ev_ind n i (tl ρ))

ev_pow : (n : ℕ) (p : P n) (k : ℕ) (ρ : List ℕ) → ev n (pow n p k) ρ ≡ ev n p ρ ^ k
ev_pow n p zero ρ = ev_con n 1 ρ ∙ sym (pow-zero (ev n p ρ))
ev_pow n p (suc k) ρ = ev_mul n p (pow n p k) ρ ∙ ap (λ t. ev n p ρ * t) (ev_pow n p k ρ) ∙ sym (pow-succ' (ev n p ρ) k)

pub norm_sound : (n : ℕ) (e : E) (ρ : List ℕ) → val n e ρ ≡ ev n (norm n e) ρ
norm_sound n (var i) ρ = sym (ev_ind n i ρ)
norm_sound n (# k) ρ = sym (ev_con n k ρ)
norm_sound n (a ⊕ b) ρ = ap₂ ◌+◌ (norm_sound n a ρ) (norm_sound n b ρ) ∙ sym (ev_add n (norm n a) (norm n b) ρ)
norm_sound n (a ⊗ b) ρ = ap₂ ◌*◌ (norm_sound n a ρ) (norm_sound n b ρ) ∙ sym (ev_mul n (norm n a) (norm n b) ρ)
norm_sound n (a ↑ k) ρ = ap (λ t. t ^ k) (norm_sound n a ρ) ∙ sym (ev_pow n (norm n a) k ρ)
norm_sound n (nxt a) ρ = omega (arith, norm_sound n a ρ, ev_add n (con n 1) (norm n a) ρ, ev_con n 1 ρ)

-- ---- two tests on normal forms: equal; and below, coefficient by coefficient
pub and_l : (a b : Bool) → T (a && b) → T a
and_l true b t = tt
and_l false b t = t

pub and_r : (a b : Bool) → T (a && b) → T b
and_r true b t = t
and_r false b t = absurd t

abbrev pub below_all : {A : Type 0} → A → (A → A → Bool) → List A → List A → Bool
below_all z b [] qs = true
below_all z b (p ∷ ps) [] = b p z && below_all z b ps []
below_all z b (p ∷ ps) (q ∷ qs) = b p q && below_all z b ps qs

abbrev pub below : (n : ℕ) → P n → P n → Bool
below zero c d = leb c d
below (suc n) ps qs = below_all (nil n) (below n) ps qs

hor_below : {A : Type 0} (f : A → ℕ) (x : ℕ) (z : A) (b : A → A → Bool) → f z ≡ 0 → ((p q : A) → T (b p q) → f p ≤ f q) → (ps qs : List A)
    → T (below_all z b ps qs) → hor f x ps ≤ hor f x qs
hor_below f x z b e h [] qs t = zero-le
hor_below f x z b e h (p ∷ ps) [] t =
    omega (arith, e, h p z (and_l (b p z) (below_all z b ps []) t), mul-le-mul_left x (hor_below f x z b e h ps [] (and_r (b p z) (below_all z b ps []) t)))
hor_below f x z b e h (p ∷ ps) (q ∷ qs) t =
    add-le-add (h p q (and_l (b p q) (below_all z b ps qs) t)) (mul-le-mul_left x (hor_below f x z b e h ps qs (and_r (b p q) (below_all z b ps qs) t)))

ev_below : (n : ℕ) (p q : P n) (ρ : List ℕ) → T (below n p q) → ev n p ρ ≤ ev n q ρ
ev_below zero p q ρ t = leb→le p q t
ev_below (suc n) p q ρ t = hor_below (λ (r : P n). ev n r (tl ρ)) (hd ρ) (nil n) (below n) (ev_nil n (tl ρ)) (λ r s. ev_below n r s (tl ρ)) p q t

pub le_sound : (n : ℕ) (a b : E) (ρ : List ℕ) → T (below n (norm n a) (norm n b)) → val n a ρ ≤ val n b ρ
le_sound n a b ρ t = subst₂ ◌≤◌ (sym (norm_sound n a ρ)) (sym (norm_sound n b ρ)) (ev_below n (norm n a) (norm n b) ρ t)

pub eq_sound : (n : ℕ) (a b : E) (ρ : List ℕ) → T (below n (norm n a) (norm n b) && below n (norm n b) (norm n a)) → val n a ρ ≡ val n b ρ
eq_sound n a b ρ t =
    le_antisymm (le_sound n a b ρ (and_l (below n (norm n a) (norm n b)) (below n (norm n b) (norm n a)) t))
    (le_sound n b a ρ (and_r (below n (norm n a) (norm n b)) (below n (norm n b) (norm n a)) t))

-- ---- the quick test of an equation: the values at one point whose coordinates are far apart (Kronecker's substitution).
-- `far n f` is a point K of n numbers, each above f's value at the numbers after it and ones before it.
abbrev pub far : (n : ℕ) → (List ℕ → ℕ) → List ℕ
far zero f = []
far (suc n) f = let K : List ℕ = far n (λ ρ. f (1 ∷ ρ)) in suc (f (1 ∷ K)) ∷ K

Bnd : ℕ → (List ℕ → ℕ) → List ℕ → Type 0
Bnd zero f K = Unit {0}
Bnd (suc n) f K = (f (1 ∷ tl K) < hd K) × Bnd n (λ ρ. f (1 ∷ ρ)) (tl K)

bnd_mono : (n : ℕ) (f g : List ℕ → ℕ) → ((ρ : List ℕ) → f ρ ≤ g ρ) → (K : List ℕ) → Bnd n g K → Bnd n f K
unfolding Bnd
bnd_mono zero f g h K b = tt
bnd_mono (suc n) f g h K b = (lt_of_le_of_lt (h (1 ∷ tl K)) b.0, bnd_mono n (λ ρ. f (1 ∷ ρ)) (λ ρ. g (1 ∷ ρ)) (λ ρ. h (1 ∷ ρ)) (tl K) b.1)

bnd_far : (n : ℕ) (f : List ℕ → ℕ) → Bnd n f (far n f)
unfolding Bnd
bnd_far zero f = tt
bnd_far (suc n) f = (le_refl (suc (f (1 ∷ far n (λ ρ. f (1 ∷ ρ))))), bnd_far n (λ ρ. f (1 ∷ ρ)))

-- a digit and the rest are determined by their sum
digit : (k a b r s : ℕ) → a < k → b < k → a + k * r ≡ b + k * s → a ≡ b
digit k a b r s p q e = sym (mod-eq_of_lt p) ∙ sym (add-mul-mod_self_left a k r) ∙ ap (λ t. t % k) e ∙ add-mul-mod_self_left b k s ∙ mod-eq_of_lt q

rest : (k a b r s : ℕ) → a < k → b < k → a + k * r ≡ b + k * s → r ≡ s
rest k a b r s p q e = eq_of_mul-eq-mul_left k (omega arith) r s (add_left_cancel a (e ∙ ap (λ t. t + k * s) (sym (digit k a b r s p q e))))

module _ (n : ℕ) (K ρ : List ℕ) where
  nil_bnd : Bnd (suc n) (ev (suc n) []) K → Bnd n (ev n (nil n)) (tl K)
  unfolding Bnd
  nil_bnd b = bnd_mono n (ev n (nil n)) (λ σ. 0) (λ σ. le_of_eq (ev_nil n σ)) (tl K) b.1

  head_le : (p : P n) (ps : List (P n)) (σ : List ℕ) → ev n p σ ≤ ev (suc n) (p ∷ ps) (1 ∷ σ)
  head_le p ps σ = omega arith

  tail_le : (p : P n) (ps : List (P n)) (σ : List ℕ) → ev (suc n) ps (1 ∷ σ) ≤ ev (suc n) (p ∷ ps) (1 ∷ σ)
  tail_le p ps σ = omega arith

  head_bnd : (p : P n) (ps : List (P n)) → Bnd (suc n) (ev (suc n) (p ∷ ps)) K → (ev n p (tl K) < hd K) × Bnd n (ev n p) (tl K)
  unfolding Bnd
  head_bnd p ps b = (lt_of_le_of_lt (head_le p ps (tl K)) b.0, bnd_mono n (ev n p) (λ σ. ev (suc n) (p ∷ ps) (1 ∷ σ)) (head_le p ps) (tl K) b.1)

  tail_bnd : (p : P n) (ps : List (P n)) → Bnd (suc n) (ev (suc n) (p ∷ ps)) K → Bnd (suc n) (ev (suc n) ps) K
  unfolding Bnd
  tail_bnd p ps b =
      (lt_of_le_of_lt (tail_le p ps (tl K)) b.0, bnd_mono n (λ σ. ev (suc n) ps (1 ∷ σ)) (λ σ. ev (suc n) (p ∷ ps) (1 ∷ σ)) (tail_le p ps) (tl K) b.1)

  ends : (ih : (p q : P n) → Bnd n (ev n p) (tl K) → Bnd n (ev n q) (tl K) → ev n p (tl K) ≡ ev n q (tl K) → ev n p (tl ρ) ≡ ev n q (tl ρ))
      (ps qs : List (P n)) → Bnd (suc n) (ev (suc n) ps) K → Bnd (suc n) (ev (suc n) qs) K → ev (suc n) ps K ≡ ev (suc n) qs K
      → ev (suc n) ps ρ ≡ ev (suc n) qs ρ
  unfolding Bnd
  ends ih [] [] bp bq e = refl
  ends ih [] (q ∷ qs) bp bq e =
      let r = ev (suc n) qs K in
      let e' : 0 + hd K * 0 ≡ ev n q (tl K) + hd K * r = omega (arith, e) in
      let b : ev n q (tl K) < hd K = (head_bnd q qs bq).0 in
      let h = ih (nil n) q (nil_bnd bp) (head_bnd q qs bq).1 (ev_nil n (tl K) ∙ digit (hd K) 0 (ev n q (tl K)) 0 r bp.0 b e') in
      let t = ends ih [] qs bp (tail_bnd q qs bq) (rest (hd K) 0 (ev n q (tl K)) 0 r bp.0 b e') in
      omega (arith, ev_nil n (tl ρ), h, ap (λ u. hd ρ * u) t)
  ends ih (p ∷ ps) [] bp bq e =
      let r = ev (suc n) ps K in
      let e' : ev n p (tl K) + hd K * r ≡ 0 + hd K * 0 = omega (arith, e) in
      let b : ev n p (tl K) < hd K = (head_bnd p ps bp).0 in
      let h = ih p (nil n) (head_bnd p ps bp).1 (nil_bnd bq) (digit (hd K) (ev n p (tl K)) 0 r 0 b bq.0 e' ∙ sym (ev_nil n (tl K))) in
      let t = ends ih ps [] (tail_bnd p ps bp) bq (rest (hd K) (ev n p (tl K)) 0 r 0 b bq.0 e') in
      omega (arith, ev_nil n (tl ρ), h, ap (λ u. hd ρ * u) t)
  ends ih (p ∷ ps) (q ∷ qs) bp bq e =
      let b : ev n p (tl K) < hd K = (head_bnd p ps bp).0 in
      let c : ev n q (tl K) < hd K = (head_bnd q qs bq).0 in
      let h = ih p q (head_bnd p ps bp).1 (head_bnd q qs bq).1 (digit (hd K) (ev n p (tl K)) (ev n q (tl K)) (ev (suc n) ps K) (ev (suc n) qs K) b c e) in
      let t = ends ih ps qs (tail_bnd p ps bp) (tail_bnd q qs bq) (rest (hd K) (ev n p (tl K)) (ev n q (tl K)) (ev (suc n) ps K) (ev (suc n) qs K) b c e) in
      ap₂ (λ u v. u + hd ρ * v) h t

uniq : (n : ℕ) (p q : P n) (K ρ : List ℕ) → Bnd n (ev n p) K → Bnd n (ev n q) K → ev n p K ≡ ev n q K → ev n p ρ ≡ ev n q ρ
uniq zero p q K ρ bp bq e = e
uniq (suc n) p q K ρ bp bq e = ends n K ρ (λ r s. uniq n r s (tl K) (tl ρ)) p q bp bq e

-- the point for an equation, and the test at it
abbrev pub point : ℕ → E → E → List ℕ
point n a b = far n (λ ρ. val n a ρ + val n b ρ)

abbrev pub agree : ℕ → E → E → Bool
agree n a b = let K : List ℕ = point n a b in eqb (val n a K) (val n b K)

pub quick : (n : ℕ) (a b : E) (ρ : List ℕ) → T (agree n a b) → val n a ρ ≡ val n b ρ
quick n a b ρ t =
    norm_sound n a ρ
    ∙ uniq n (norm n a) (norm n b) K ρ bp bq (sym (norm_sound n a K) ∙ eqb→eq (val n a K) (val n b K) t ∙ norm_sound n b K)
    ∙ sym (norm_sound n b ρ)
  where
    f : List ℕ → ℕ
    f σ = val n a σ + val n b σ

    K : List ℕ
    K = point n a b

    bp : Bnd n (ev n (norm n a)) K
    bp = bnd_mono n (ev n (norm n a)) f (λ σ. le_trans (le_of_eq (sym (norm_sound n a σ))) (le-add_right (val n a σ) (val n b σ))) K (bnd_far n f)

    bq : Bnd n (ev n (norm n b)) K
    bq = bnd_mono n (ev n (norm n b)) f (λ σ. le_trans (le_of_eq (sym (norm_sound n b σ))) (le-add_left (val n b σ) (val n a σ))) K (bnd_far n f)

-- ---- the form to use: `ring 3 (λ x y z. .. ≐ ..) tt`
-- (`≗` is `≐` by the normal forms, for many variables at a high degree)
infix 40 ◌≐◌ ◌≗◌ ◌≼◌
pub data Q : Type 0 where
  ◌≐◌ ◌≗◌ ◌≼◌ : E → E → Q

abbrev pub Quoted : ℕ → Type 0
Quoted zero = Q
Quoted (suc n) = E → Quoted n

abbrev pub body : (n i : ℕ) → Quoted n → Q
body zero i q = q
body (suc n) i f = body n (suc i) (f (var i))

abbrev pub All : (n : ℕ) → (List ℕ → Type 0) → Type 0
All zero F = F []
All (suc n) F = (x : ℕ) → All n (λ ρ. F (x ∷ ρ))

abbrev pub Means : ℕ → Q → List ℕ → Type 0
Means n (a ≐ b) ρ = val n a ρ ≡ val n b ρ
Means n (a ≗ b) ρ = val n a ρ ≡ val n b ρ
Means n (a ≼ b) ρ = val n a ρ ≤ val n b ρ

abbrev pub test : ℕ → Q → Bool
test n (a ≐ b) = agree n a b
test n (a ≗ b) = below n (norm n a) (norm n b) && below n (norm n b) (norm n a)
test n (a ≼ b) = below n (norm n a) (norm n b)

pub all : (n : ℕ) (F : List ℕ → Type 0) → ((ρ : List ℕ) → F ρ) → All n F
all zero F f = f []
all (suc n) F f = λ x. all n (λ ρ. F (x ∷ ρ)) (λ ρ. f (x ∷ ρ))

sound : (n : ℕ) (q : Q) (ρ : List ℕ) → T (test n q) → Means n q ρ
sound n (a ≐ b) ρ t = quick n a b ρ t
sound n (a ≗ b) ρ t = eq_sound n a b ρ t
sound n (a ≼ b) ρ t = le_sound n a b ρ t

pub ring : (n : ℕ) (f : Quoted n) → T (test n (body n 0 f)) → All n (Means n (body n 0 f))
ring n f t = all n (Means n (body n 0 f)) (λ ρ. sound n (body n 0 f) ρ t)
