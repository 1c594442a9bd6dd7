-- The walk over rows keeps a brightest pixel: it stands in the rows, and none has more light. Which of equals it keeps is the choice between the next
-- pixel and the one kept, over which this is said. Places are a row and a pixel in it, both from 0.
use mathlib.Core.Path.{◌≡◌, refl, sym, ap, subst, ◌∙◌}
use mathlib.Core.Logic.{◌⊎◌, inl, inr}
use mathlib.Core.Bool.{Bool, true, false, cond}
use mathlib.Core.List.{List, [], ◌∷◌}
use Prim.Native.Nat.{ℕ, zero, suc, ◌+◌, ◌≤◌, ◌<◌}
use native.Mathlib.Decide.{dec_lt}
use native.Mathlib.Omega.{arith}
use lib.ListN.{length, get_or}
use Rattle.quantity.specs.declared.sample_format.Depth.TheVariants.{Ten}
use Rattle.quantity.specs.declared.sample_format.Range.TheVariants.{Narrow}
use Rattle.quantity.specs.SampleFormat.{coded}
use Rattle.content_light.specs.Peak.{CodedRow, row_in, pixels_of, light_of}
use Rattle.content_light.specs.Peak.{outshines, Brightest, none, found, after, after_pixels, after_rows, brightest_pixel}
use Rattle.content_light.proofs.OutshinesLaws.{outshines_le, outshone_le}

abbrev pub row_at : List CodedRow → ℕ → CodedRow
row_at rows i = get_or rows i (row_in (coded Ten Narrow) [])

-- a pixel of rows
abbrev pub Located : List CodedRow → ℕ → ℕ → Type 0
Located rows i j = (i < length rows) × (j < pixels_of (row_at rows i))

abbrev pub Before : ℕ → ℕ → ℕ → ℕ → Type 0
Before i j row pixel = (i < row) ⊎ ((i ≡ row) × (j < pixel))

pub one_way : {i j row pixel : ℕ} → Before i j row pixel → Before row pixel i j → ⊥
one_way (inl h) (inl k) = omega arith
one_way (inl h) (inr k) = omega (arith, k.0)
one_way (inr h) (inl k) = omega (arith, h.0)
one_way (inr h) (inr k) = omega (arith, h.1, k.1)

-- where neither is before the other, they are the same
pub same_place : (i j row pixel : ℕ) → (Before i j row pixel → ⊥) → (Before row pixel i j → ⊥) → (i ≡ row) × (j ≡ pixel)
same_place i j row pixel h k = go (dec_lt i row) (dec_lt row i)
  where
    pixels : i ≡ row → Dec (j < pixel) → Dec (pixel < j) → j ≡ pixel
    pixels e (yes l) m = absurd (h (inr (e, l)))
    pixels e (no l) (yes m) = absurd (k (inr (sym e, m)))
    pixels e (no l) (no m) = omega arith

    go : Dec (i < row) → Dec (row < i) → (i ≡ row) × (j ≡ pixel)
    go (yes l) m = absurd (h (inl l))
    go (no l) (yes m) = absurd (k (inl m))
    go (no l) (no m) = let e : i ≡ row = omega arith in (e, pixels e (dec_lt j pixel) (dec_lt pixel j))

pub record BrightestAt (rows : List CodedRow) (light row pixel : ℕ) : Type 0 where
  pub there : Located rows row pixel
  pub has : light_of (row_at rows row) pixel ≡ light
  pub most : (i j : ℕ) → Located rows i j → light_of (row_at rows i) j ≤ light

-- all brightest pixels have one light
pub same_light : {rows : List CodedRow} {l r j l' r' j' : ℕ} → BrightestAt rows l r j → BrightestAt rows l' r' j' → l ≡ l'
same_light {rows} {l} {r} {j} {l'} {r'} {j'} x y = omega (arith, x.has, y.has, y.most r j x.there, x.most r' j' y.there)

-- ---- the walk by any choice
-- whether a pixel takes over, by its light and the light found before
abbrev pub Choice : Type 0
Choice = ℕ → ℕ → Bool

module _ (choice : Choice) where
  unfoldable pub after_by : Brightest → ℕ → ℕ → ℕ → Brightest
  after_by none light row pixel = found light row pixel
  after_by (found l r j) light row pixel = cond (choice light l) (found light row pixel) (found l r j)

  unfoldable pub after_pixels_by : Brightest → ℕ → CodedRow → ℕ → Brightest
  after_pixels_by b number row zero = b
  after_pixels_by b number row (suc n) = after_by (after_pixels_by b number row n) (light_of row n) number n

  unfoldable pub after_rows_by : Brightest → ℕ → List CodedRow → Brightest
  after_rows_by b number [] = b
  after_rows_by b number (row ∷ later) = after_rows_by (after_pixels_by b number row (pixels_of row)) (suc number) later

-- A choice by light, and how a place as bright as the one kept stands to it, (i, j) to (row, pixel): an earlier one has given way, a later one has not
-- taken over.
pub record Keeps (choice : Choice) (Tie : ℕ → ℕ → ℕ → ℕ → Type 0) : Type 0 where
  pub takes : (light found : ℕ) → choice light found ≡ true → found ≤ light
  pub leaves : (light found : ℕ) → choice light found ≡ false → light ≤ found
  pub itself : (i j : ℕ) → Tie i j i j
  pub gave_way : {light i j row pixel : ℕ} → choice light light ≡ true → Before i j row pixel → Tie i j row pixel
  pub kept_out : {light i j row pixel : ℕ} → choice light light ≡ false → Before row pixel i j → Tie i j row pixel

-- ---- what is kept among any places, for any light
record KeptOf (f : ℕ → ℕ → ℕ) (P : ℕ → ℕ → Type 0) (Tie : ℕ → ℕ → ℕ → ℕ → Type 0) (light row pixel : ℕ) : Type 0 where
  there : P row pixel
  has : f row pixel ≡ light
  most : (i j : ℕ) → P i j → f i j ≤ light
  tied : (i j : ℕ) → P i j → f i j ≡ light → Tie i j row pixel

-- what was found among the places P: nothing where there is none
abbrev Finds : (ℕ → ℕ → ℕ) → (ℕ → ℕ → Type 0) → (ℕ → ℕ → ℕ → ℕ → Type 0) → Brightest → Type 0
Finds f P Tie none = (i j : ℕ) → P i j → ⊥
Finds f P Tie (found light row pixel) = KeptOf f P Tie light row pixel

-- Q are the places P and one more, behind them all
record OneMore (P Q : ℕ → ℕ → Type 0) (row pixel : ℕ) : Type 0 where
  behind : (i j : ℕ) → P i j → Before i j row pixel
  kept : (i j : ℕ) → P i j → Q i j
  new : Q row pixel
  only : (i j : ℕ) → Q i j → P i j ⊎ ((i ≡ row) × (j ≡ pixel))

module _ {choice : Choice} {Tie : ℕ → ℕ → ℕ → ℕ → Type 0} (c : Keeps choice Tie) where
  module _ (f : ℕ → ℕ → ℕ) {P Q : ℕ → ℕ → Type 0} where
    -- among equal places the same is found
    finds_among : ((i j : ℕ) → P i j → Q i j) → ((i j : ℕ) → Q i j → P i j) → (b : Brightest) → Finds f P Tie b → Finds f Q Tie b
    finds_among to from none s = λ i j q. s i j (from i j q)
    finds_among to from (found light row pixel) s =
        record {
          there = to row pixel s.there;
          has = s.has;
          most = λ i j q. s.most i j (from i j q);
          tied = λ i j q. s.tied i j (from i j q);
        }

    module _ {n x : ℕ} (w : OneMore P Q n x) where
      -- a new place is kept if none has more light, and those as bright give way
      new_kept : ((i j : ℕ) → P i j → f i j ≤ f n x) → ((i j : ℕ) → P i j → f i j ≡ f n x → Tie i j n x) → KeptOf f Q Tie (f n x) n x
      new_kept most tied = record { there = w.new; has = refl; most = λ i j q. all i j (w.only i j q); tied = λ i j q. ties i j (w.only i j q) }
        where
          all : (i j : ℕ) → P i j ⊎ ((i ≡ n) × (j ≡ x)) → f i j ≤ f n x
          all i j (inl p) = most i j p
          all i j (inr e) = rw (e.0, e.1) (omega arith)

          ties : (i j : ℕ) → P i j ⊎ ((i ≡ n) × (j ≡ x)) → f i j ≡ f n x → Tie i j n x
          ties i j (inl p) h = tied i j p h
          ties i j (inr e) h = rw (e.0, e.1) (c.itself n x)

      -- the old one stays if the new place has no more light, and is kept out if it is as bright
      old_kept : {light row pixel : ℕ} → KeptOf f P Tie light row pixel → f n x ≤ light → (f n x ≡ light → Tie n x row pixel) → KeptOf f Q Tie light row pixel
      old_kept {light} {row} {pixel} s most tied =
          record {
            there = w.kept row pixel s.there;
            has = s.has;
            most = λ i j q. all i j (w.only i j q);
            tied = λ i j q. ties i j (w.only i j q);
          }
        where
          all : (i j : ℕ) → P i j ⊎ ((i ≡ n) × (j ≡ x)) → f i j ≤ light
          all i j (inl p) = s.most i j p
          all i j (inr e) = rw (e.0, e.1) most

          ties : (i j : ℕ) → P i j ⊎ ((i ≡ n) × (j ≡ x)) → f i j ≡ light → Tie i j row pixel
          ties i j (inl p) h = s.tied i j p h
          ties i j (inr e) h = rw (e.0, e.1) (tied (rw (e.0, e.1) at h))

      -- either way, what is found with one pixel more is kept
      pixel_walked : (b : Brightest) → Finds f P Tie b → Finds f Q Tie (after_by choice b (f n x) n x)
      unfolding after_by
      pixel_walked none s = new_kept (λ i j p. absurd (s i j p)) (λ i j p. absurd (s i j p))
      pixel_walked (found light row pixel) s = go (choice (f n x) light) refl
        where
          go : (t : Bool) → choice (f n x) light ≡ t → Finds f Q Tie (cond t (found (f n x) n x) (found light row pixel))
          go true e =
              let up = c.takes (f n x) light e in
              new_kept (λ i j p. let l = s.most i j p in omega arith)
              (λ i j p h.
              let l = s.most i j p in
              let same : light ≡ f n x = omega arith in
              c.gave_way (subst (λ (l : ℕ). choice (f n x) l ≡ true) same e) (w.behind i j p))
          go false e =
              old_kept s (c.leaves (f n x) light e)
              (λ h. c.kept_out (subst (λ (l : ℕ). choice l light ≡ false) h e) (w.behind row pixel s.there))

  -- ---- the walk over rows
  module _ (rows : List CodedRow) where
    abbrev light_in : ℕ → ℕ → ℕ
    light_in i j = light_of (row_at rows i) j

    -- the places seen after n rows and m pixels of the next
    abbrev Seen : ℕ → ℕ → ℕ → ℕ → Type 0
    Seen n m i j = ((i < n) × (j < pixels_of (row_at rows i))) ⊎ ((i ≡ n) × (j < m))

    -- pixel m of row n is seen next
    next_seen : (n m : ℕ) → OneMore (Seen n m) (Seen n (suc m)) n m
    next_seen n m = record { behind = behind; kept = kept; new = inr (refl, omega arith); only = only }
      where
        behind : (i j : ℕ) → Seen n m i j → Before i j n m
        behind i j (inl p) = inl p.0
        behind i j (inr p) = inr p

        kept : (i j : ℕ) → Seen n m i j → Seen n (suc m) i j
        kept i j (inl p) = inl p
        kept i j (inr p) = inr (p.0, omega (arith, p.1))

        last : (i j : ℕ) → i ≡ n → j < suc m → Dec (j < m) → Seen n m i j ⊎ ((i ≡ n) × (j ≡ m))
        last i j e h (yes l) = inl (inr (e, l))
        last i j e h (no l) = inr (e, omega arith)

        only : (i j : ℕ) → Seen n (suc m) i j → Seen n m i j ⊎ ((i ≡ n) × (j ≡ m))
        only i j (inl p) = inl (inl p)
        only i j (inr p) = last i j p.0 p.1 (dec_lt j m)

    -- with the first m pixels of row n
    pixels_walked : (n m : ℕ) (b : Brightest) → Finds light_in (Seen n 0) Tie b
        → Finds light_in (Seen n m) Tie (after_pixels_by choice b n (row_at rows n) m)
    unfolding after_pixels_by
    pixels_walked n zero b s = s
    pixels_walked n (suc m) b s = pixel_walked light_in (next_seen n m) (after_pixels_by choice b n (row_at rows n) m) (pixels_walked n m b s)

    -- with all pixels of row n, n + 1 rows are seen
    row_walked : (n : ℕ) (b : Brightest) → Finds light_in (Seen n 0) Tie b
        → Finds light_in (Seen (suc n) 0) Tie (after_pixels_by choice b n (row_at rows n) (pixels_of (row_at rows n)))
    row_walked n b s =
        let row = row_at rows n in
        finds_among light_in to from (after_pixels_by choice b n row (pixels_of row)) (pixels_walked n (pixels_of row) b s)
      where
        to : (i j : ℕ) → Seen n (pixels_of (row_at rows n)) i j → Seen (suc n) 0 i j
        to i j (inl p) = inl (omega (arith, p.0), p.1)
        to i j (inr p) = inl (omega (arith, p.0), rw p.0 p.1)

        last : (i j : ℕ) → i < suc n → j < pixels_of (row_at rows i) → Dec (i < n) → Seen n (pixels_of (row_at rows n)) i j
        last i j h k (yes l) = inl (l, k)
        last i j h k (no l) = let e : i ≡ n = omega arith in inr (e, rw e at k)

        from : (i j : ℕ) → Seen (suc n) 0 i j → Seen n (pixels_of (row_at rows n)) i j
        from i j (inl p) = last i j p.0 p.1 (dec_lt i n)
        from i j (inr p) = absurd (omega (arith, p.1))

    -- with the later rows, which are those from n on, all are seen
    rows_walked : (later : List CodedRow) (n : ℕ) (b : Brightest) → ((i : ℕ) → row_at later i ≡ row_at rows (n + i)) → n + length later ≡ length rows
        → Finds light_in (Seen n 0) Tie b → Finds light_in (Seen (length rows) 0) Tie (after_rows_by choice b n later)
    unfolding after_rows_by
    rows_walked [] n b each e s = let all : n ≡ length rows = omega (arith, e) in subst (λ (k : ℕ). Finds light_in (Seen k 0) Tie b) all s
    rows_walked (row ∷ later) n b each e s =
        rows_walked later (suc n) (after_pixels_by choice b n row (pixels_of row)) (λ i. each (suc i) ∙ ap (row_at rows) (omega arith)) (omega (arith, e))
        (subst (λ (r : CodedRow). Finds light_in (Seen (suc n) 0) Tie (after_pixels_by choice b n r (pixels_of r))) (sym here) (row_walked n b s))
      where
        here : row ≡ row_at rows n
        here = each 0 ∙ ap (row_at rows) (omega arith)

    -- the places then seen are the pixels of the rows
    all_walked : Finds light_in (Located rows) Tie (after_rows_by choice none 0 rows)
    all_walked =
        finds_among light_in located (λ i j p. inl p) (after_rows_by choice none 0 rows)
        (rows_walked rows 0 none (λ i. ap (row_at rows) (omega arith)) (omega arith) nothing)
      where
        nothing : (i j : ℕ) → Seen 0 0 i j → ⊥
        nothing i j (inl p) = omega (arith, p.0)
        nothing i j (inr p) = omega (arith, p.1)

        located : (i j : ℕ) → Seen (length rows) 0 i j → Located rows i j
        located i j (inl p) = p
        located i j (inr p) = absurd (omega (arith, p.1))

    -- ---- what it finds
    pub kept_brightest : {light row pixel : ℕ} → after_rows_by choice none 0 rows ≡ found light row pixel → BrightestAt rows light row pixel
    kept_brightest e =
        let w = subst (Finds light_in (Located rows) Tie) e all_walked in
        record { there = w.there; has = w.has; most = w.most }

    pub kept_tied : {light row pixel : ℕ} → after_rows_by choice none 0 rows ≡ found light row pixel
        → (i j : ℕ) → Located rows i j → light_of (row_at rows i) j ≡ light → Tie i j row pixel
    kept_tied e = (subst (Finds light_in (Located rows) Tie) e all_walked).tied

    pub nothing_kept : after_rows_by choice none 0 rows ≡ none → (i j : ℕ) → Located rows i j → ⊥
    nothing_kept e = subst (Finds light_in (Located rows) Tie) e all_walked

-- ---- the walk of the definitions
by_outshines : (b : Brightest) (light row pixel : ℕ) → after b light row pixel ≡ after_by outshines b light row pixel
unfolding after after_by
by_outshines none light row pixel = refl
by_outshines (found l r j) light row pixel = refl

pixels_by_outshines : (b : Brightest) (number : ℕ) (row : CodedRow) (n : ℕ) → after_pixels b number row n ≡ after_pixels_by outshines b number row n
unfolding after_pixels after_pixels_by
pixels_by_outshines b number row zero = refl
pixels_by_outshines b number row (suc n) =
    by_outshines (after_pixels b number row n) (light_of row n) number n
    ∙ ap (λ (k : Brightest). after_by outshines k (light_of row n) number n) (pixels_by_outshines b number row n)

pub rows_by_outshines : (b : Brightest) (number : ℕ) (rows : List CodedRow) → after_rows b number rows ≡ after_rows_by outshines b number rows
unfolding after_rows after_rows_by
rows_by_outshines b number [] = refl
rows_by_outshines b number (row ∷ later) =
    rows_by_outshines (after_pixels b number row (pixels_of row)) (suc number) later
    ∙ ap (λ (k : Brightest). after_rows_by outshines k (suc number) later) (pixels_by_outshines b number row (pixels_of row))

-- it is by light, whichever of equals it keeps
by_light_lem : Keeps outshines (λ i j row pixel. Unit)
by_light_lem = record { takes = outshines_le; leaves = outshone_le; itself = λ i j. tt; gave_way = λ e b. tt; kept_out = λ e b. tt }

pub brightest_found : (rows : List CodedRow) {light row pixel : ℕ} → brightest_pixel rows ≡ found light row pixel → BrightestAt rows light row pixel
brightest_found rows e = kept_brightest by_light_lem rows (sym (rows_by_outshines none 0 rows) ∙ e)

pub no_pixel_located : (rows : List CodedRow) → brightest_pixel rows ≡ none → (i j : ℕ) → Located rows i j → ⊥
no_pixel_located rows e = nothing_kept by_light_lem rows (sym (rows_by_outshines none 0 rows) ∙ e)
