-- What every signal keeps, a list of signals keeps; what may be done before a signal as well as after it, may be so with a list of signals; and a signal touches no mailbox and no other semaphore.
use Rattle.std.specs.Prelude.{ℕ, ◌≡◌, refl, List, [], ◌∷◌}
use Rattle.std.proofs.Common.{◌∙◌, ap}
use Rattle.ledger.specs.Ledger.{Semaphore, PENDING, DONE, WAITING, Ledger, semaphore_of, set_task, set_semaphores, set_semaphore, set_blocks, set_event_wait}
use Rattle.ledger.specs.Services.{signalled, signal, signal_all}
use Rattle.ledger.proofs.Theorems.Items.{at_put_other}

pub signals_keep : (P : Ledger → Type 0) → ((b : ℕ) (l : Ledger) → P l → P (signal b l).ledger) → (bs : List ℕ) (l : Ledger) → P l → P (signal_all bs l)
unfolding signal_all
signals_keep P keeps [] l h = h
signals_keep P keeps (b ∷ bs) l h = signals_keep P keeps bs (signal b l).ledger (keeps b l h)

pub signals_commute : (f : Ledger → Ledger) → ((b : ℕ) (l : Ledger) → (signal b (f l)).ledger ≡ f (signal b l).ledger) → (bs : List ℕ) (l : Ledger) → signal_all bs (f l) ≡ f (signal_all bs l)
unfolding signal_all
signals_commute f e [] l = refl
signals_commute f e (b ∷ bs) l = ap (signal_all bs) (e b l) ∙ signals_commute f e bs (signal b l).ledger

signalled_boxes : (s : Semaphore) (b : ℕ) (l : Ledger) → (signalled s b l).ledger.mailboxes ≡ l.mailboxes
unfolding signalled set_semaphore set_semaphores set_event_wait set_blocks set_task
signalled_boxes PENDING b l = refl
signalled_boxes DONE b l = refl
signalled_boxes (WAITING w) b l = refl

pub signal_boxes : (b : ℕ) (l : Ledger) → (signal b l).ledger.mailboxes ≡ l.mailboxes
unfolding signal
signal_boxes b l = signalled_boxes (semaphore_of l b) b l

-- a signal leaves the other semaphores
other_signalled : (s : Semaphore) (b d : ℕ) (l : Ledger) → (d ≡ b → ⊥) → semaphore_of (signalled s b l).ledger d ≡ semaphore_of l d
unfolding signalled set_semaphore set_semaphores set_event_wait set_blocks set_task semaphore_of
other_signalled PENDING b d l n = at_put_other l.semaphores b d DONE PENDING n
other_signalled DONE b d l n = at_put_other l.semaphores b d DONE PENDING n
other_signalled (WAITING t) b d l n = at_put_other l.semaphores b d PENDING PENDING n

pub other_signal : (b d : ℕ) (l : Ledger) → (d ≡ b → ⊥) → semaphore_of (signal b l).ledger d ≡ semaphore_of l d
unfolding signal
other_signal b d l n = other_signalled (semaphore_of l b) b d l n
