-- Demand 3: one cab ends in the best call that it knows of, so two cabs that know of the same calls end in the same one. Assumes nothing.
use mathlib.Core.Path.{◌≡◌, refl, sym, ap, ◌∙◌, subst}
use mathlib.Core.Logic.{◌⊎◌, inl, inr, ⊎_elim}
use mathlib.Core.List.Memᴰ
use mathlib.Core.List.{List, [], ◌∷◌}
use mathlib.Core.Bool.{Bool, true, false}
use Rattle.call.specs.declared.Settings.{Settings}
use Rattle.group_order.specs.Order.{is_better}
use Rattle.group_order.proofs.Order.{never-itself, not-better-chain, same-identifier}
use Rattle.group_record.specs.declared.states.GroupRecord.{GroupRecord}
use Rattle.group_call.specs.Hearing.{ongoing, HeardLine, promised, answer_hearing, hear, hear_all}
use Rattle.group_call.proofs.Merging.{ongoing-is}
use Rattle.demands.specs.SameCall.{Cab, Call, call_of, Announcing, HearsOf, Knows, InCall, Alike, SameSet, Best, end_of, Silent, EndsInBest, BestCall, SameCall, AnyOrder}
use Rattle.demands.proofs.HearingOne.{Brings, AfterLine, after_line}

-- ---- sets

-- a cab that has its lines still to hear
abbrev cab_of : Settings → GroupRecord → List HeardLine → Cab
cab_of s g xs = record { settings = s; stored = g; lines = xs }

-- what the first line brings is known
knows-first : (s : Settings) (g : GroupRecord) (x : HeardLine) (xs : List HeardLine) (c : Call) → Brings s x.line c → Knows (cab_of s g (x ∷ xs)) c
knows-first s g x xs c m = inr ((x, Memᴰ.head refl, m.0), m.1)

-- so is what later lines announce
announced-later : (s : Settings) (x : HeardLine) (xs : List HeardLine) (c : Call) → HearsOf s xs c → HearsOf s (x ∷ xs) c
announced-later s x xs c m = ((m.0.0, Memᴰ.tail m.0.1, m.0.2), m.1)

-- what is announced is brought by the first line, or announced by a later one
pub announced-split : (s : Settings) (x : HeardLine) (xs : List HeardLine) (c : Call) → HearsOf s (x ∷ xs) c → Brings s x.line c ⊎ HearsOf s xs c
announced-split s x xs c m =
    ⊎_elim (λ e. inl (subst (λ (y : HeardLine). Announcing y.line c) e m.0.2, m.1)) (λ n. inr ((m.0.0, n, m.0.2), m.1))
    (Memᴰ.cases_cons m.0.1)

-- what is known after the first line was known before it
knew : (s : Settings) (g : GroupRecord) (x : HeardLine) (xs : List HeardLine) → AfterLine s g x (answer_hearing promised s g x) → (c : Call)
    → Knows (cab_of s (hear promised s g x) xs) c → Knows (cab_of s g (x ∷ xs)) c
knew s g x xs h c (inl e) =
    ⊎_elim (λ p. inl (e ∙ p)) (λ m. knows-first s g x xs c (subst (λ (d : Call). Brings s x.line d) (sym e) m)) h.known
knew s g x xs h c (inr m) = inr (announced-later s x xs c m)

-- ---- one cab

-- of alike calls the best is better than every other
others-worse : (known : Call → Type 0) → Alike known → (c : Call) → Best known c → (d : Call) → known d → (d ≡ c) ⊎ (is_better c.0 d.0 ≡ true)
others-worse known alike c t d k = go (is_better c.0 d.0) refl
  where
    go : (b : Bool) → is_better c.0 d.0 ≡ b → (d ≡ c) ⊎ (is_better c.0 d.0 ≡ true)
    go true e = inr e
    go false e = inl (alike d c k t.member (same-identifier d.0 c.0 (t.none_better d k) e))

-- what is to be shown of one cab
shown : (x : Cab) → Alike (Knows x) → InCall x.settings (end_of promised x) → Best (Knows x) (call_of (end_of promised x))
    → Silent promised x.settings x.stored x.lines → EndsInBest promised x
shown x alike is best silent =
    record { in_call = is; best = best; others_worse = others-worse (Knows x) alike (call_of (end_of promised x)) best; silent = silent }

-- by one line after the other
ended : (s : Settings) (xs : List HeardLine) (g : GroupRecord) → InCall s g → Alike (Knows (cab_of s g xs)) → EndsInBest promised (cab_of s g xs)
ended s [] g is alike =
    shown (cab_of s g []) alike is
    (record {
      member = inl refl;
      none_better = λ d k. ⊎_elim (λ e. ap (λ (c : Call). is_better c.0 g.call) e ∙ never-itself g.call) (λ m. absurd (Memᴰ.not-nil m.0.1)) k;
    }) tt
ended s (x ∷ xs) g is alike =
    let h = after_line s g x is (λ c m e. alike c (call_of g) (knows-first s g x xs c m) (inl refl) e) in
    let knew-all = knew s g x xs h in
    let rest = ended s xs (hear promised s g x) h.in_call (λ a b k l e. alike a b (knew-all a k) (knew-all b l) e) in
    let last = (hear_all promised s g (x ∷ xs)).call in
    let later : (d : Call) → is_better d.0 (hear promised s g x).call ≡ false → is_better d.0 last ≡ false =
    λ d n. not-better-chain d.0 (hear promised s g x).call last n (rest.best.none_better (call_of (hear promised s g x)) (inl refl))
    in
    shown (cab_of s g (x ∷ xs)) alike rest.in_call
    (record {
      member = knew-all _ rest.best.member;
      none_better = λ d k.
          ⊎_elim (λ e. later d (ap (λ (c : Call). is_better c.0 (hear promised s g x).call) e ∙ h.old_not_better))
          (λ m. ⊎_elim (λ b. later d (h.brought_not_better d b)) (λ n. rest.best.none_better d (inr n)) (announced-split s x xs d m)) k;
    }) (h.silent, rest.silent)

-- one cab ends in the best call that it knows of
pub best-call : BestCall promised
best-call x is alike = ended x.settings x.lines x.stored is alike

-- ---- two cabs

-- two best calls of one set are one
best-is-one : (known : Call → Type 0) → Alike known → (c d : Call) → Best known c → Best known d → c ≡ d
best-is-one known alike c d p q =
    alike c d p.member q.member (same-identifier c.0 d.0 (q.none_better c p.member) (p.none_better d q.member))

-- a best call of the second cab's set is one of the first's
best-back : (x y : Cab) → SameSet x y → (c : Call) → Best (Knows y) c → Best (Knows x) c
best-back x y set c p =
    record { member = set.back c p.member; none_better = λ d k. p.none_better d (set.there d k) }

-- two cabs of one group that know of the same calls end in the same call
pub same-call : SameCall promised
same-call x y t =
    let alike-x : Alike (Knows x) = λ a b k l. t.alike a b (inl k) (inl l) in
    let alike-y : Alike (Knows y) = λ a b k l. t.alike a b (inr k) (inr l) in
    let p = best-call x t.first alike-x in
    let q = best-call y t.second alike-y in
    let call = best-is-one (Knows x) alike-x _ _ p.best (best-back x y t.same_set _ q.best) in
    let here = ongoing-is x.settings (end_of promised x) p.in_call.formed p.in_call.ongoing in
    let other = ongoing-is y.settings (end_of promised y) q.in_call.formed q.in_call.ongoing in
    record { same_call = call; same_record = here ∙ ap (λ (c : Call). ongoing c.0 c.1) call ∙ sym other; first = p; second = q }

-- two lists that announce the same calls leave a cab with the same record
pub any_order : AnyOrder promised
any_order s g xs ys is alike same =
    (same-call (cab_of s g xs) (cab_of s g ys)
    (record {
      one_group = refl;
      first = is;
      second = is;
      alike = λ a b k l. alike a b (⊎_elim (λ z. z) (back a) k) (⊎_elim (λ z. z) (back b) l);
      same_set = record { there = there; back = back };
    })).same_record
  where
    there : (c : Call) → Knows (cab_of s g xs) c → Knows (cab_of s g ys) c
    there c = ⊎_elim (λ e. inl e) (λ m. inr ((same c).0 m))

    back : (c : Call) → Knows (cab_of s g ys) c → Knows (cab_of s g xs) c
    back c = ⊎_elim (λ e. inl e) (λ m. inr ((same c).1 m))
