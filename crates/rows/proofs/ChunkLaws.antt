-- A `for` over the whole chunks of a row, counted from 0: what is left of the row, and where the next chunk lies.
use Rattle.std.proofs.Common.{◌≡◌, ℕ, ◌+◌, ◌*◌, ◌<◌, ◌≤◌, List, ◌++◌, Some, None, length, take, drop, sym, refl, ap, ap₂, ◌∙◌, mul-zero}
use Rattle.std.proofs.Common.{[], min, append-nil, arith, drop_of_length-le, length-append, length-drop}
use native.Mathlib.Decide.{dec_le}
use Rattle.std.proofs.Math.Seq.{take-append_seam, drop-append_seam}
use Rattle.std.proofs.lemmas.List.{drop-drop, nil_from_length, take_all}
use Rattle.std.specs.declared.iter.Enumerate.{Enumerate}
use Rattle.std.specs.declared.slice.Chunks.{Chunks}
use Rattle.std.specs.declared.slice.ChunksExact.{ChunksExact}
use Rattle.std.specs.Borrow.{Bor}
use Rattle.std.specs.Iterator.Adapters.{enumerate_source, enumerate_count, enumerate_steps}
use Rattle.std.specs.Slice.Iter.{chunks_rest, chunks_size, chunks_steps, chunks_exact_rest, chunks_exact_size, chunks_exact_steps}

module _ {A : Type 0} (k : ℕ) (row : List A) where
  -- chunks of k elements, of which as many as are counted have come off the row
  pub record Left (s : Enumerate (ChunksExact A)) : Type 0 where
    pub size : chunks_exact_size (enumerate_source s) ≡ k
    pub within : k * enumerate_count s ≤ length row
    pub rest : chunks_exact_rest (enumerate_source s) ≡ drop (k * enumerate_count s) row

  -- the next of them is x, at place j
  pub record Next (s t : Enumerate (ChunksExact A)) (j : ℕ) (x : List A) : Type 0 where
    pub place : j ≡ enumerate_count s
    pub count : enumerate_count t ≡ j + 1
    pub chunk : x ≡ take k (drop (k * j) row)
    pub left : Left t

  pub none_yet : (s : Enumerate (ChunksExact A)) → chunks_exact_size (enumerate_source s) ≡ k → chunks_exact_rest (enumerate_source s) ≡ row
      → enumerate_count s ≡ 0 → Left s
  none_yet s size rest count =
      let none : k * enumerate_count s ≡ 0 = simp (count, mul-zero) refl in
      record { size = size; within = omega (arith, none); rest = rest ∙ sym (ap (λ (n : ℕ). drop n row) none) }

  pub next : (s t : Enumerate (ChunksExact A)) (j : ℕ) (x : Bor (List A)) → Left s → enumerate_steps chunks_exact_steps s (Some (j, x)) t → Next s t j x.now
  next s t j x h e =
      let came = e.0.1 in
      let long : length x.now ≡ k = came.1 ∙ h.size in
      let place : k * enumerate_count s ≡ k * j = ap (λ (n : ℕ). k * n) (sym e.1) in
      let whole : drop (k * j) row ≡ x.now ++ chunks_exact_rest (enumerate_source t) = sym (ap (λ (n : ℕ). drop n row) place) ∙ sym h.rest ∙ came.0 in
      let further : k * enumerate_count t ≡ k * j + k = ap (λ (n : ℕ). k * n) (e.2 ∙ ap (λ (n : ℕ). n + 1) (sym e.1)) ∙ omega arith in
      record {
        place = e.1;
        count = omega (arith, e.1, e.2);
        chunk = sym (ap₂ take (sym long) whole ∙ take-append_seam x.now _);
        left = record {
          size = e.0.0 ∙ h.size;
          within =
              omega (
                arith,
                further,
                place,
                h.within,
                long,
                length-drop (k * j) row,
                ap (λ (l : List A). length l) whole,
                length-append x.now
                    (chunks_exact_rest (enumerate_source t)),
              );
          rest = sym (ap (λ (n : ℕ). drop n row) further ∙ sym (drop-drop k (k * j) row) ∙ ap₂ drop (sym long) whole ∙ drop-append_seam x.now _);
        };
      }

  pub end : (s t : Enumerate (ChunksExact A)) → Left s → enumerate_steps chunks_exact_steps s None t → length row < k * enumerate_count s + k
  end s t h e = omega (arith, e.0.1.0, h.size, h.within, ap (λ (l : List A). length l) h.rest, length-drop (k * enumerate_count s) row)

-- ---- and over its parts of k elements, of which the last may be short
module _ {A : Type 0} (k : ℕ) (row : List A) where
  pub record PartsLeft (s : Enumerate (Chunks A)) : Type 0 where
    pub size : chunks_size (enumerate_source s) ≡ k
    pub rest : chunks_rest (enumerate_source s) ≡ drop (k * enumerate_count s) row

  pub record NextPart (s t : Enumerate (Chunks A)) (j : ℕ) (x : List A) : Type 0 where
    pub place : j ≡ enumerate_count s
    pub count : enumerate_count t ≡ j + 1
    pub part : x ≡ take k (drop (k * j) row)
    pub some : k * j < length row
    pub left : PartsLeft t

  pub no_part_yet : (s : Enumerate (Chunks A)) → chunks_size (enumerate_source s) ≡ k → chunks_rest (enumerate_source s) ≡ row → enumerate_count s ≡ 0
      → PartsLeft s
  no_part_yet s size rest count =
      let none : k * enumerate_count s ≡ 0 = simp (count, mul-zero) refl in
      record { size = size; rest = rest ∙ sym (ap (λ (n : ℕ). drop n row) none) }

  -- a front of a list that is k long, or the whole of a shorter one
  front : (d x rest : List A) → d ≡ x ++ rest → length x ≡ min k (length d) → (x ≡ take k d) × (rest ≡ drop k d)
  front d x rest e l = go (dec_le k (length d))
    where
      go : Dec (k ≤ length d) → (x ≡ take k d) × (rest ≡ drop k d)
      go (yes h) =
          let long : length x ≡ k = omega arith in
          (sym (ap₂ take (sym long) e ∙ take-append_seam x rest), sym (ap₂ drop (sym long) e ∙ drop-append_seam x rest))
      go (no h) =
          let sum : length d ≡ length x + length rest = ap (λ (l : List A). length l) e ∙ length-append x rest in
          let none : rest ≡ [] = nil_from_length rest (omega arith) in
          (sym (take_all k d (omega arith) ∙ e ∙ ap (λ (l : List A). x ++ l) none ∙ append-nil x), none ∙ sym (drop_of_length-le d (omega arith)))

  pub next_part : (s t : Enumerate (Chunks A)) (j : ℕ) (x : Bor (List A)) → PartsLeft s → enumerate_steps chunks_steps s (Some (j, x)) t
      → NextPart s t j x.now
  next_part s t j x h e =
      let came = e.0.1 in
      let place : k * enumerate_count s ≡ k * j = ap (λ (n : ℕ). k * n) (sym e.1) in
      let here : chunks_rest (enumerate_source s) ≡ drop (k * j) row = h.rest ∙ ap (λ (n : ℕ). drop n row) place in
      let further : k * enumerate_count t ≡ k * j + k = ap (λ (n : ℕ). k * n) (e.2 ∙ ap (λ (n : ℕ). n + 1) (sym e.1)) ∙ omega arith in
      let parts =
      front (drop (k * j) row) x.now (chunks_rest (enumerate_source t)) (sym here ∙ came.0)
      (came.1 ∙ ap₂ min h.size (ap (λ (l : List A). length l) here)) in
      record {
        place = e.1;
        count = omega (arith, e.1, e.2);
        part = parts.0;
        some = omega (arith, came.2, ap (λ (l : List A). length l) here, length-drop (k * j) row);
        left = record { size = e.0.0 ∙ h.size; rest = parts.1 ∙ drop-drop k (k * j) row ∙ sym (ap (λ (n : ℕ). drop n row) further) };
      }

  pub last_part : (s t : Enumerate (Chunks A)) → PartsLeft s → enumerate_steps chunks_steps s None t → length row ≤ k * enumerate_count s
  last_part s t h e = omega (arith, e.0.1.0, ap (λ (l : List A). length l) h.rest, length-drop (k * enumerate_count s) row)
