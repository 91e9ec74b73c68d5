-- The lines of a log: joined they are the log, the first comes off its front, none but the last can lack its end, and no other lines make
-- up the log. Assumes nothing.
use mathlib.Core.Path.{◌≡◌, refl, sym, ap, ◌∙◌}
use mathlib.Core.Logic.{⊎_elim}
use mathlib.Core.List.{List, [], ◌∷◌, ◌++◌, append-nil, flatten}
use mathlib.Core.Bool.{Bool, true, false, not, cond, false≢true}
use Prim.Native.Nat.{ℕ, suc, ◌+◌, ◌<◌, ◌≤◌, min}
use native.Mathlib.Omega.{arith}
use lib.ListN.{length, take, drop}
use lib.Seq.{length-take-le, take-append_seam, drop-append_seam}
use lib.Dec.{ltb}
use borrow.Author.Tests.{not-true, ltb-true, ltb-false}
use Rattle.std.specs.Prelude.{Option, Some, None}
use Rattle.std.specs.List.{position_or_len}
use Rattle.std.specs.Option.{option_map_or}
use Rattle.std.proofs.lemmas.Bool.{false_from_ne_true}
use Rattle.std.proofs.lemmas.Option.{none-some}
use Rattle.std.proofs.lemmas.List.Sums.{position_or_len_is}
use Rattle.memchr.specs.Find.{IsFirstByte, is_byte}
use Rattle.frame.proofs.Laws.{and_split, or_cases}
use Rattle.log_lines.specs.Lines.{is_end, ahead, lines_of, joined, first_line, after_first, ended_line, unended_piece, cut_at_ends, CutPlace}

-- ---- joined

-- a byte put ahead of the first line is put ahead of the log
joined-ahead : (x : ℕ) (lines : List (List ℕ)) → joined (ahead x lines) ≡ x ∷ joined lines
unfolding flatten
joined-ahead x [] = refl
joined-ahead x (l ∷ lines) = refl

-- the lines of a log, joined, are the log
pub lines-joined : (log : List ℕ) → joined (lines_of log) ≡ log
unfolding lines_of flatten
lines-joined [] = refl
lines-joined (x ∷ log) = go (is_end x) (lines-joined log)
  where
    go : (b : Bool) → joined (lines_of log) ≡ log → joined (cond b ((x ∷ []) ∷ lines_of log) (ahead x (lines_of log))) ≡ x ∷ log
    go true h = ap (λ (s : List ℕ). x ∷ s) h
    go false h = joined-ahead x (lines_of log) ∙ ap (λ (s : List ℕ). x ∷ s) h

-- ---- the first line and the rest

-- a log is its first line and what stands behind it
first-and-after : (log : List ℕ) → first_line log ++ after_first log ≡ log
unfolding first_line after_first
first-and-after [] = refl
first-and-after (x ∷ log) = go (is_end x) (first-and-after log)
  where
    go : (b : Bool) → first_line log ++ after_first log ≡ log → x ∷ (cond b [] (first_line log) ++ cond b log (after_first log)) ≡ x ∷ log
    go true h = refl
    go false h = ap (λ (s : List ℕ). x ∷ s) h

-- the lines of a log that is not empty: the first line, then the lines of what stands behind it
pub lines-first : (log : List ℕ) → 1 ≤ length log → lines_of log ≡ first_line log ∷ lines_of (after_first log)
unfolding lines_of first_line after_first
lines-first [] h = absurd (omega arith)
lines-first (x ∷ []) h = go (is_end x)
  where
    go : (b : Bool) → cond b ((x ∷ []) ∷ []) ((x ∷ []) ∷ []) ≡ (x ∷ cond b [] []) ∷ lines_of (cond b [] [])
    go true = refl
    go false = refl
lines-first (x ∷ y ∷ log) h = go (is_end x) (lines-first (y ∷ log) (omega arith))
  where
    go : (b : Bool) → lines_of (y ∷ log) ≡ first_line (y ∷ log) ∷ lines_of (after_first (y ∷ log))
        → cond b ((x ∷ []) ∷ lines_of (y ∷ log)) (ahead x (lines_of (y ∷ log))) ≡ (x ∷ cond b [] (first_line (y ∷ log))) ∷ lines_of (cond b (y ∷ log) (after_first (y ∷ log)))
    go true e = refl
    go false e = ap (ahead x) e

-- the first line is the front of the log, by its length
pub first-is-front : (log : List ℕ) → take (length (first_line log)) log ≡ first_line log
first-is-front log =
    ap (take (length (first_line log))) (sym (first-and-after log)) ∙ take-append_seam (first_line log) (after_first log)

-- and what stands behind it is the rest
pub after-is-rest : (log : List ℕ) → drop (length (first_line log)) log ≡ after_first log
after-is-rest log =
    ap (drop (length (first_line log))) (sym (first-and-after log)) ∙ drop-append_seam (first_line log) (after_first log)

-- so the lines are what is cut off at the length of the first, and the lines of the rest
pub lines-cut : (log : List ℕ) (n : ℕ) → 1 ≤ length log → n ≡ length (first_line log) → lines_of log ≡ take n log ∷ lines_of (drop n log)
lines-cut log n h e = rw (e, first-is-front log, after-is-rest log) (lines-first log h)

-- and there are none of an empty log
pub lines-none : (log : List ℕ) → length log ≡ 0 → lines_of log ≡ []
unfolding lines_of
lines-none [] h = refl
lines-none (x ∷ log) h = absurd (omega arith)

-- the first line ends behind the first byte that ends a line, or with the log
first-end : (log : List ℕ) → length (first_line log) ≡ min (position_or_len is_end log + 1) (length log)
unfolding first_line
first-end [] = refl
first-end (x ∷ log) = go (is_end x) (first-end log)
  where
    go : (b : Bool) → length (first_line log) ≡ min (position_or_len is_end log + 1) (length log)
        → suc (length (cond b [] (first_line log))) ≡ min (cond (not b) (1 + position_or_len is_end log) 0 + 1) (suc (length log))
    go true h = omega arith
    go false h = omega (arith, h)

-- a byte of a front that ends a line is the last of the first line
first-near : (front rest : List ℕ) → position_or_len is_end front < length front → length (first_line (front ++ rest)) ≡ position_or_len is_end front + 1
unfolding first_line
first-near [] rest h = absurd (omega (arith, h))
first-near (x ∷ front) rest h = go (is_end x) (first-near front rest) h
  where
    go : (b : Bool) → (position_or_len is_end front < length front → length (first_line (front ++ rest)) ≡ position_or_len is_end front + 1)
        → cond (not b) (1 + position_or_len is_end front) 0 < suc (length front)
        → suc (length (cond b [] (first_line (front ++ rest)))) ≡ cond (not b) (1 + position_or_len is_end front) 0 + 1
    go true more h = refl
    go false more h = let e = more (omega (arith, h)) in omega (arith, e)

-- a front in which no line ends makes the first line so much longer
first-far : (front rest : List ℕ) → length front ≤ position_or_len is_end front → length (first_line (front ++ rest)) ≡ length front + length (first_line rest)
unfolding first_line
first-far [] rest h = omega arith
first-far (x ∷ front) rest h = go (is_end x) (first-far front rest) h
  where
    go : (b : Bool) → (length front ≤ position_or_len is_end front → length (first_line (front ++ rest)) ≡ length front + length (first_line rest))
        → suc (length front) ≤ cond (not b) (1 + position_or_len is_end front) 0
        → suc (length (cond b [] (first_line (front ++ rest)))) ≡ suc (length front) + length (first_line rest)
    go true more h = absurd (omega (arith, h))
    go false more h = let e = more (omega (arith, h)) in omega (arith, e)

-- what a search of a front tells: the first place at which a line ends, if there is one
abbrev pub near_end : List ℕ → Option ℕ
near_end front = cond (ltb (position_or_len is_end front) (length front)) (Some (position_or_len is_end front)) None

-- where it finds one the first line ends there
pub first-found : (log front rest : List ℕ) (at : ℕ) → log ≡ front ++ rest → near_end front ≡ Some at → length (first_line log) ≡ at + 1
first-found log front rest at e found = rw e (go (ltb (position_or_len is_end front) (length front)) refl found)
  where
    go : (b : Bool) → ltb (position_or_len is_end front) (length front) ≡ b → cond b (Some (position_or_len is_end front)) None ≡ Some at
        → length (first_line (front ++ rest)) ≡ at + 1
    go true t f = let n = first-near front rest (ltb-true _ _ t) in let s = ap (λ r. option_map_or (λ place. place) r 0) f in omega (arith, n, s)
    go false t f = absurd (none-some at f)

-- where it finds none the first line is so much longer
pub first-passed : (log front rest : List ℕ) → log ≡ front ++ rest → near_end front ≡ None → length (first_line log) ≡ length front + length (first_line rest)
first-passed log front rest e found = rw e (go (ltb (position_or_len is_end front) (length front)) refl found)
  where
    go : (b : Bool) → ltb (position_or_len is_end front) (length front) ≡ b → cond b (Some (position_or_len is_end front)) None ≡ None
        → length (first_line (front ++ rest)) ≡ length front + length (first_line rest)
    go true t f = absurd (none-some (position_or_len is_end front) (sym f))
    go false t f = first-far front rest (ltb-false _ _ t)

-- so its length is what the search for that byte gives
pub first_length : (log : List ℕ) (r : Option ℕ) → IsFirstByte (is_byte 0x0a) log r → length (first_line log) ≡ option_map_or (λ at. at + 1) r (length log)
first_length log None none =
    let all = position_or_len_is is_end log (length log) 0 (omega arith) (λ k l. false_from_ne_true _ (none k (omega arith) l)) (λ w. absurd (omega arith)) in
    omega (arith, first-end log, all)
first_length log (Some at) found =
    let ahead = found.0.before in
    let within : at < length log = found.0.high in
    let place = position_or_len_is is_end log at 0 (omega arith) (λ k l. false_from_ne_true _ (ahead k (omega arith) l)) (λ w. found.1) in
    omega (arith, first-end log, place)

-- a list can be cut wherever it has so many bytes
pub cut-place : (n : ℕ) (l : List ℕ) → n ≤ length l → CutPlace n l
cut-place n l h = (h, sym (length-take-le n l h))

-- ---- none but the last can lack its end, and no other lines make up the log

-- a byte ahead of lines that are cut at their ends
ahead-cut : (x : ℕ) → is_end x ≡ false → (lines : List (List ℕ)) → cut_at_ends lines ≡ true → cut_at_ends (ahead x lines) ≡ true
ahead-cut x e [] h = rw e
ahead-cut x e ([] ∷ []) h = absurd (false≢true h)
ahead-cut x e ([] ∷ next ∷ lines) h = absurd (false≢true h)
ahead-cut x e ((y ∷ l) ∷ []) h = rw e h
ahead-cut x e ((y ∷ l) ∷ next ∷ lines) h = rw e h

-- an ended line ahead of lines that are cut at their ends
pub ended-cut : (l : List ℕ) → ended_line l ≡ true → (lines : List (List ℕ)) → cut_at_ends lines ≡ true → cut_at_ends (l ∷ lines) ≡ true
ended-cut l e [] h = rw e
ended-cut l e (next ∷ lines) h = rw e h

-- every line of a log is ended, but the last may be an unended piece
pub lines-cut-at-ends : (log : List ℕ) → cut_at_ends (lines_of log) ≡ true
unfolding lines_of
lines-cut-at-ends [] = refl
lines-cut-at-ends (x ∷ log) = go (is_end x) refl (lines-cut-at-ends log)
  where
    go : (b : Bool) → is_end x ≡ b → cut_at_ends (lines_of log) ≡ true → cut_at_ends (cond b ((x ∷ []) ∷ lines_of log) (ahead x (lines_of log))) ≡ true
    go true e h = ended-cut (x ∷ []) e (lines_of log) h
    go false e h = ahead-cut x e (lines_of log) h

-- an ended line ahead of a log is its first line
ended-first : (line log : List ℕ) → ended_line line ≡ true → lines_of (line ++ log) ≡ line ∷ lines_of log
unfolding lines_of
ended-first [] log h = absurd (false≢true h)
ended-first (x ∷ []) log h = rw h
ended-first (x ∷ y ∷ line) log h =
    let p = and_split (not (is_end x)) (ended_line (y ∷ line)) h in
    let e : is_end x ≡ false = not-true _ p.0 in
    ap (λ (b : Bool). cond b ((x ∷ []) ∷ lines_of (y ∷ line ++ log)) (ahead x (lines_of (y ∷ line ++ log)))) e
    ∙ ap (ahead x) (ended-first (y ∷ line) log p.1)

-- an unended piece is one line
pub unended-alone : (piece : List ℕ) → unended_piece piece ≡ true → lines_of piece ≡ piece ∷ []
unfolding lines_of
unended-alone [] h = absurd (false≢true h)
unended-alone (x ∷ []) h = let e : is_end x ≡ false = not-true _ h in rw e
unended-alone (x ∷ y ∷ piece) h =
    let p = and_split (not (is_end x)) (unended_piece (y ∷ piece)) h in
    let e : is_end x ≡ false = not-true _ p.0 in
    ap (λ (b : Bool). cond b ((x ∷ []) ∷ lines_of (y ∷ piece)) (ahead x (lines_of (y ∷ piece)))) e
    ∙ ap (ahead x) (unended-alone (y ∷ piece) p.1)

-- lines that are cut at their ends are the lines of their log: no other lines make it up
pub lines-are-the-only-ones : (lines : List (List ℕ)) → cut_at_ends lines ≡ true → lines_of (joined lines) ≡ lines
unfolding lines_of flatten
lines-are-the-only-ones [] h = refl
lines-are-the-only-ones (l ∷ []) h =
    ⊎_elim (ended-first l []) (λ u. ap lines_of (append-nil l) ∙ unended-alone l u) (or_cases (ended_line l) (unended_piece l) h)
lines-are-the-only-ones (l ∷ next ∷ lines) h =
    let p = and_split (ended_line l) (cut_at_ends (next ∷ lines)) h in
    ended-first l (joined (next ∷ lines)) p.0 ∙ ap (λ (rest : List (List ℕ)). l ∷ rest) (lines-are-the-only-ones (next ∷ lines) p.1)

-- where lines are cut at their ends, the first has a byte and the others are so too
pub cut-first : (l : List ℕ) (lines : List (List ℕ)) → cut_at_ends (l ∷ lines) ≡ true → (1 ≤ length l) × (cut_at_ends lines ≡ true)
cut-first [] [] h = absurd (false≢true h)
cut-first [] (next ∷ lines) h = absurd (false≢true h)
cut-first (x ∷ l) [] h = (omega arith, refl)
cut-first (x ∷ l) (next ∷ lines) h = (omega arith, (and_split (ended_line (x ∷ l)) (cut_at_ends (next ∷ lines)) h).1)
