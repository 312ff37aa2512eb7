-- Document 01, "The journal": worked out from events and whether each was accepted; no table comes into it. Each bullet is said
-- by the fields of the event and takes no rule from the ledger's step: neither how an action is read off the fields, nor what an
-- effect does, nor what is posted. Shared are the calendar, interest and rounding as functions of numbers, and the standings of a mandate.
-- proofs/Laws/Wordings has the law that an event within its limits is noted as the step would have it. Assumes nothing.
use Rattle.std.specs.Prelude.{Bool, cond, ◌||◌, List, [], ◌∷◌, ℕ, ◌+◌, ◌-◌, eqb, ltb, ℤ, pos, neg_ℤ, ◌+ℤ◌, Option, Some, None}
use Rattle.calendar.specs.DayNumber.{day_number}
use Rattle.calendar.specs.Target.{first_business_day}
use Rattle.events.specs.declared.Event.{Event}
use Rattle.positions.specs.Compensation.{interest, half_up, half_even}
use Rattle.tables.specs.declared.Standing.{Standing}
use Rattle.tables.specs.declared.Standing.TheVariants.{Live, Closed, Cancelled}
use Rattle.model.specs.Lookups.{Known}
use Rattle.model.specs.Lookups.Known.{unknown, known}
use Rattle.model.specs.Step.{Entry}

-- ---- what is noted

pub record NotedMandate : Type 0 where
  pub creditor : ℕ
  pub debtor : ℕ
  pub bank : ℕ
  pub signed : ℕ
  pub code : ℕ
  pub standing : Standing
  pub presented : ℕ

-- settled is S, 0 while there is none
pub record NotedCollection : Type 0 where
  pub mandate : ℕ
  pub code : ℕ
  pub amount : ℕ
  pub creditor : ℕ
  pub debtor : ℕ
  pub cbank : ℕ
  pub dbank : ℕ
  pub settled : ℕ

-- each map goes by number; a creditor's bank is 0 where the creditor is not noted
pub record Journal : Type 0 where
  pub banks : ℕ → ℕ
  pub mandates : ℕ → Known NotedMandate
  pub collections : ℕ → Known NotedCollection
  pub creditor_figure : ℕ → ℤ
  pub debtor_figure : ℕ → ℤ
  pub bank_figure : ℕ → ℤ
  pub compensation : ℤ

-- before any event: nothing noted, every figure 0
abbrev pub empty : Journal
empty = record {
  banks = λ n. 0;
  mandates = λ n. unknown;
  collections = λ n. unknown;
  creditor_figure = λ n. pos 0;
  debtor_figure = λ n. pos 0;
  bank_figure = λ n. pos 0;
  compensation = pos 0;
}

-- ---- one entry of a map anew

abbrev pub noted : {A : Type 0} → (ℕ → A) → ℕ → A → ℕ → A
noted f k a n = cond (eqb n k) a (f n)

abbrev pub plus : (ℕ → ℤ) → ℕ → ℤ → ℕ → ℤ
plus f k x n = cond (eqb n k) (f n +ℤ x) (f n)

abbrev pub with_bank : Journal → ℕ → ℕ → Journal
with_bank j creditor bank = record {
  banks = noted j.banks creditor bank;
  mandates = j.mandates;
  collections = j.collections;
  creditor_figure = j.creditor_figure;
  debtor_figure = j.debtor_figure;
  bank_figure = j.bank_figure;
  compensation = j.compensation;
}

abbrev pub with_mandate : Journal → ℕ → NotedMandate → Journal
with_mandate j number m = record {
  banks = j.banks;
  mandates = noted j.mandates number (known m);
  collections = j.collections;
  creditor_figure = j.creditor_figure;
  debtor_figure = j.debtor_figure;
  bank_figure = j.bank_figure;
  compensation = j.compensation;
}

abbrev pub with_collection : Journal → ℕ → NotedCollection → Journal
with_collection j number k = record {
  banks = j.banks;
  mandates = j.mandates;
  collections = noted j.collections number (known k);
  creditor_figure = j.creditor_figure;
  debtor_figure = j.debtor_figure;
  bank_figure = j.bank_figure;
  compensation = j.compensation;
}

-- adds to the figures of those that the note of the collection names: the debtor's, the creditor's, the debtor bank's, the
-- creditor bank's; and to total compensation
abbrev pub adding : Journal → NotedCollection → ℤ → ℤ → ℤ → ℤ → ℤ → Journal
adding j k debtor creditor dbank cbank paid = record {
  banks = j.banks;
  mandates = j.mandates;
  collections = j.collections;
  creditor_figure = plus j.creditor_figure k.creditor creditor;
  debtor_figure = plus j.debtor_figure k.debtor debtor;
  bank_figure = plus (plus j.bank_figure k.dbank dbank) k.cbank cbank;
  compensation = j.compensation +ℤ paid;
}

-- where something is not noted, nothing is done
abbrev pub needing : {A : Type 0} → Known A → Journal → (A → Journal) → Journal
needing unknown j f = j
needing (known a) j f = f a

-- ---- mandates: bullets 2, 3, 4

-- a noted mandate with another creditor, debtor bank, standing or last presented
abbrev pub noted_anew : NotedMandate → ℕ → ℕ → Standing → ℕ → NotedMandate
noted_anew m creditor bank standing presented = record {
  creditor = creditor;
  debtor = m.debtor;
  bank = bank;
  signed = m.signed;
  code = m.code;
  standing = standing;
  presented = presented;
}

-- 2: a mandate by its fields
unfoldable pub new_noted : Event → NotedMandate
new_noted e = record {
  creditor = e.a;
  debtor = e.b;
  bank = e.c;
  signed = e.second;
  code = e.code;
  standing = Live;
  presented = 0;
}

-- 3: code 0 gives the new debtor bank, code 1 the new creditor
unfoldable pub amended : Event → NotedMandate → NotedMandate
amended e m =
    cond (eqb e.code 0)
    (noted_anew m m.creditor e.c m.standing m.presented)
    (noted_anew m e.a m.bank m.standing m.presented)

unfoldable pub cancelled : NotedMandate → NotedMandate
cancelled m = noted_anew m m.creditor m.bank Cancelled m.presented

-- ---- collects: bullet 5

-- the date that was found for a kept due; from a requested date in range there is one
abbrev pub due_on : Option ℕ → ℕ
due_on (Some x) = x
due_on None = 0

-- code 2 is FNAL, 3 OOFF
abbrev pub is_last : ℕ → Bool
is_last code = eqb code 2 || eqb code 3

-- the mandate after it: last presented on the kept due, and closed by a last collection
unfoldable pub collected_on : Event → NotedMandate → NotedMandate
collected_on e m =
    noted_anew m m.creditor m.bank (cond (is_last e.code) Closed m.standing) (due_on (first_business_day e.second))

-- the collection keeps the parties and banks that are noted now
unfoldable pub noted_collection : Journal → Event → NotedMandate → NotedCollection
noted_collection j e m = record {
  mandate = e.mandate;
  code = e.code;
  amount = e.amount;
  creditor = m.creditor;
  debtor = m.debtor;
  cbank = j.banks m.creditor;
  dbank = m.bank;
  settled = 0;
}

-- it needs the mandate, and the bank of the mandate's creditor
unfoldable pub note_collect : Journal → Event → Journal
note_collect j e =
    needing (j.mandates e.mandate) j
    (λ m.
    cond (eqb (j.banks m.creditor) 0) j
    (with_collection (with_mandate j e.mandate (collected_on e m)) e.a (noted_collection j e m)))

-- ---- settles and undoings: bullets 6, 8, 9, 10

-- 6: S is the event date
unfoldable pub noted_settled : NotedCollection → ℕ → NotedCollection
noted_settled k date = record {
  mandate = k.mandate;
  code = k.code;
  amount = k.amount;
  creditor = k.creditor;
  debtor = k.debtor;
  cbank = k.cbank;
  dbank = k.dbank;
  settled = date;
}

-- A goes from the debtor to the creditor, and from bank to bank
unfoldable pub note_settle : Journal → Event → NotedCollection → Journal
note_settle j e k =
    adding (with_collection j e.a (noted_settled k e.date)) k
    (neg_ℤ (pos k.amount)) (pos k.amount) (neg_ℤ (pos k.amount)) (pos k.amount) (pos 0)

-- 8 and 10: A goes back
unfoldable pub note_back : Journal → NotedCollection → Journal
note_back j k =
    adding j k (pos k.amount) (neg_ℤ (pos k.amount)) (pos k.amount) (neg_ℤ (pos k.amount)) (pos 0)

-- 9: A goes back, and K from the creditor, bank to bank, to total compensation
unfoldable pub note_refund : Journal → NotedCollection → ℕ → Journal
note_refund j k paid =
    adding j k (pos k.amount) (neg_ℤ (pos (k.amount + paid))) (pos (k.amount + paid)) (neg_ℤ (pos (k.amount + paid))) (pos paid)

-- the interest of A at the rate in the event, for the calendar days that went by since S
abbrev pub interest_on : Event → NotedCollection → ℕ
interest_on e k = interest k.amount e.b (day_number e.date - day_number k.settled)

-- K in whole cents: an exact half goes up in a refund dated before 2026, and to the even cent in a later one
unfoldable pub paid_on : Event → NotedCollection → ℕ
paid_on e k =
    cond (ltb e.date 20260101)
    (half_up (interest_on e k) 3600000)
    (half_even (interest_on e k) 3600000)

-- an undoing needs the collection and its S
abbrev pub needing_settled : Journal → Event → (NotedCollection → Journal) → Journal
needing_settled j e f = needing (j.collections e.a) j (λ k. cond (eqb k.settled 0) j (f k))

-- ---- the bullets by their kinds; 7 changes nothing, and no other kind is ever accepted

unfoldable pub note_kind : ℕ → Journal → Event → Journal
note_kind kind j e =
    cond (eqb kind 1) (with_bank j e.a e.b)
    (cond (eqb kind 2) (with_mandate j e.mandate (new_noted e))
    (cond (eqb kind 3) (needing (j.mandates e.mandate) j (λ m. with_mandate j e.mandate (amended e m)))
    (cond (eqb kind 4) (needing (j.mandates e.mandate) j (λ m. with_mandate j e.mandate (cancelled m)))
    (cond (eqb kind 5) (note_collect j e)
    (cond (eqb kind 6) (needing (j.collections e.a) j (note_settle j e))
    (cond (eqb kind 8) (needing_settled j e (note_back j))
    (cond (eqb kind 9) (needing_settled j e (λ k. note_refund j k (paid_on e k)))
    (cond (eqb kind 10) (needing_settled j e (note_back j))
    j))))))))

abbrev pub note : Journal → Event → Journal
note j e = note_kind e.kind j e

-- ---- the journal of a history; what was refused is passed over

abbrev pub feed : Journal → Entry → Journal
feed j x = cond x.accepted (note j x.event) j

unfoldable pub journal_from : Journal → List Entry → Journal
journal_from j [] = j
journal_from j (x ∷ xs) = journal_from (feed j x) xs

abbrev pub journal : List Entry → Journal
journal xs = journal_from empty xs

-- the figure that a position query asks for
abbrev pub figure_in : Journal → ℕ → ℕ → ℤ
figure_in j kind number =
    cond (eqb kind 1) (j.creditor_figure number)
    (cond (eqb kind 2) (j.debtor_figure number)
    (cond (eqb kind 3) (j.bank_figure number)
    j.compensation))
