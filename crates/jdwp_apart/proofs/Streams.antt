-- what is sent in one order: where composites are sent one by one, a reply is read before each composite whose events took effect after it
-- was sent
use Rattle.std.proofs.Common.{◌≡◌, ℕ, suc, ◌+◌, ◌≤◌, Bool, true, false, List, [], ◌∷◌, ◌++◌, length, refl, sym, ap, subst, arith, append_assoc}
use Rattle.jdwp_apart.specs.World.{Reported, Given, Packet, Answers, Reports}
use Rattle.jdwp_apart.specs.Headline.{answers_in, reports_in}
use Rattle.jdwp_apart.proofs.Sums.{Paced}

pub no : {P : Type 0} → true ≡ false → P
no h = absurd (cc)

-- ---- one more is sent

pub answers_sent : (ps : List Packet) (r : Given) (rs : List Given) → answers_in ps ++ r ∷ rs ≡ answers_in (ps ++ Answers r ∷ []) ++ rs
answers_sent [] r rs = refl
answers_sent (Answers x ∷ ps) r rs = ap (λ l. x ∷ l) (answers_sent ps r rs)
answers_sent (Reports x ∷ ps) r rs = answers_sent ps r rs

pub answers_still : (ps : List Packet) (s : Reported) → answers_in ps ≡ answers_in (ps ++ Reports s ∷ [])
answers_still [] s = refl
answers_still (Answers x ∷ ps) s = ap (λ l. x ∷ l) (answers_still ps s)
answers_still (Reports x ∷ ps) s = answers_still ps s

pub reports_sent : (ps : List Packet) (s : Reported) (ss : List Reported) → reports_in ps ++ s ∷ ss ≡ reports_in (ps ++ Reports s ∷ []) ++ ss
reports_sent [] s ss = refl
reports_sent (Answers x ∷ ps) s ss = reports_sent ps s ss
reports_sent (Reports x ∷ ps) s ss = ap (λ l. x ∷ l) (reports_sent ps s ss)

pub reports_still : (ps : List Packet) (r : Given) → reports_in ps ≡ reports_in (ps ++ Answers r ∷ [])
reports_still [] r = refl
reports_still (Answers x ∷ ps) r = reports_still ps r
reports_still (Reports x ∷ ps) r = ap (λ l. x ∷ l) (reports_still ps r)

-- ---- the invariant

-- the first of them took effect after n commands
abbrev pub IsAfter : Bool → ℕ → List Reported → Type 0
IsAfter b n [] = Unit {0}
IsAfter b n (x ∷ xs) = b ≡ true → n ≤ x.1

after_more : (b : Bool) (n : ℕ) (xs : List Reported) (x : Reported) → n ≤ x.1 → IsAfter b n xs → IsAfter b n (xs ++ x ∷ [])
after_more b n [] x h a = λ _. h
after_more b n (y ∷ xs) x h a = a

paced_after : (b : Bool) (n : ℕ) (s : Reported) (xs : List Reported) → IsAfter b n xs → Paced b n (s ∷ xs)
paced_after b n s [] a = tt
paced_after b n s (x ∷ xs) a = a

abbrev pub is_one : List Reported → Bool
is_one [] = true
is_one (x ∷ []) = true
is_one (x ∷ y ∷ xs) = false

-- Of packets behind n replies, and composites that are not sent: behind each composite that was sent, the next took effect after all whose
-- replies were sent before; and one at most is not sent.
abbrev pub Spaced : Bool → ℕ → List Packet → List Reported → Type 0
Spaced b n [] us = b ≡ true → is_one us ≡ true
Spaced b n (Answers r ∷ ps) us = Spaced b (n + 1) ps us
Spaced b n (Reports s ∷ ps) us = IsAfter b n (reports_in ps ++ us) × Spaced b n ps us

paced_one : (b : Bool) (n : ℕ) (us : List Reported) → (b ≡ true → is_one us ≡ true) → Paced b n us
paced_one b n [] h = tt
paced_one b n (s ∷ []) h = tt
paced_one b n (s ∷ x ∷ us) h = λ e. no (sym (h e))

paced_less : (b : Bool) (n m : ℕ) (ss : List Reported) → n ≤ m → Paced b m ss → Paced b n ss
paced_less b n m [] h p = tt
paced_less b n m (s ∷ []) h p = tt
paced_less b n m (s ∷ x ∷ ss) h p = λ e. let i = p e in omega arith

pub spaced_paced : (b : Bool) (n : ℕ) (ps : List Packet) (us : List Reported) → Spaced b n ps us → Paced b n (reports_in ps ++ us)
spaced_paced b n [] us p = paced_one b n us p
spaced_paced b n (Answers r ∷ ps) us p = paced_less b n (n + 1) (reports_in ps ++ us) (omega arith) (spaced_paced b (n + 1) ps us p)
spaced_paced b n (Reports s ∷ ps) us p = paced_after b n s (reports_in ps ++ us) p.0

-- ---- what keeps it

one_more : (b : Bool) (us : List Reported) (x : Reported) → (b ≡ true → us ≡ []) → b ≡ true → is_one (us ++ x ∷ []) ≡ true
one_more b us x h e = ap (λ l. is_one (l ++ x ∷ [])) (h e)

pub spaced_stopped : (b : Bool) (n : ℕ) (ps : List Packet) (us : List Reported) (x : Reported) → (b ≡ true → us ≡ []) → n + length (answers_in ps) ≤ x.1 →
    Spaced b n ps us → Spaced b n ps (us ++ x ∷ [])
spaced_stopped b n [] us x h l p = one_more b us x h
spaced_stopped b n (Answers r ∷ ps) us x h l p =
    let k : n + suc (length (answers_in ps)) ≤ x.1 = l in
    spaced_stopped b (n + 1) ps us x h (omega arith) p
spaced_stopped b n (Reports s ∷ ps) us x h l p =
    (subst (λ q. IsAfter b n q) (append_assoc (reports_in ps) us (x ∷ [])) (after_more b n (reports_in ps ++ us) x (omega arith) p.0), spaced_stopped b n ps us x h l p.1)

pub spaced_replies : (b : Bool) (n : ℕ) (ps : List Packet) (us : List Reported) (r : Given) → Spaced b n ps us → Spaced b n (ps ++ Answers r ∷ []) us
spaced_replies b n [] us r p = p
spaced_replies b n (Answers x ∷ ps) us r p = spaced_replies b (n + 1) ps us r p
spaced_replies b n (Reports s ∷ ps) us r p = (subst (λ q. IsAfter b n (q ++ us)) (reports_still ps r) p.0, spaced_replies b n ps us r p.1)

none_left : (b : Bool) (n : ℕ) (s : Reported) (us : List Reported) → (b ≡ true → is_one (s ∷ us) ≡ true) → IsAfter b n us × (b ≡ true → is_one us ≡ true)
none_left b n s [] h = (tt, λ _. refl)
none_left b n s (x ∷ us) h = ((λ e. no (sym (h e))), λ e. no (sym (h e)))

pub spaced_reports : (b : Bool) (n : ℕ) (ps : List Packet) (s : Reported) (us : List Reported) → Spaced b n ps (s ∷ us) → Spaced b n (ps ++ Reports s ∷ []) us
spaced_reports b n [] s us p = none_left b n s us p
spaced_reports b n (Answers x ∷ ps) s us p = spaced_reports b (n + 1) ps s us p
spaced_reports b n (Reports x ∷ ps) s us p = (subst (λ q. IsAfter b n q) (reports_sent ps s us) p.0, spaced_reports b n ps s us p.1)
