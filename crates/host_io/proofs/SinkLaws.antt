-- What one write after another does to the bytes that a sink tells.
use Rattle.std.proofs.Common.{ℕ, ◌+◌, List, [], ◌++◌, take, drop, Option, Some, None, Result, OnErr, Ok, Err, sym, ap, ◌∙◌, append_assoc}
use Rattle.std.proofs.lemmas.List.{take-append-drop, append-nil}
use Rattle.std.proofs.Math.Seq.{take-add}
use Rattle.std.specs.Io.KnownBytes.{Keeps}
use Rattle.host_io.specs.Sink.{Appends, AppendsPrefix}

pub Appends-more : (old mid new : Option (List ℕ)) (prefix more : List ℕ) → Appends old prefix mid → Appends mid more new → Appends old (prefix ++ more) new
Appends-more None mid new prefix more h k = tt
Appends-more (Some old) None new prefix more h k = absurd h
Appends-more (Some old) (Some mid) None prefix more h k = absurd k
Appends-more (Some old) (Some mid) (Some new) prefix more h k = k ∙ ap (λ bs. bs ++ more) h ∙ append_assoc old prefix more

-- the next piece of the bytes was written
pub Appends-piece : (old mid new : Option (List ℕ)) (bytes : List ℕ) (m n : ℕ) → Appends old (take m bytes) mid → Appends mid (take n (drop m bytes)) new → Appends old (take (m + n) bytes) new
Appends-piece old mid new bytes m n h k = rw take-add (Appends-more old mid new _ _ h k)

pub Appends-kept : (old mid new : Option (List ℕ)) (prefix : List ℕ) → Appends old prefix mid → Keeps mid new → Appends old prefix new
Appends-kept None mid new prefix h k = tt
Appends-kept (Some old) None new prefix h k = absurd h
Appends-kept (Some old) (Some mid) None prefix h k = absurd k
Appends-kept (Some old) (Some mid) (Some new) prefix h k = k ∙ h

-- a prefix was written when a write failed
pub AppendsPrefix-failed : (old mid new : Option (List ℕ)) (bytes : List ℕ) (m : ℕ) → Appends old (take m bytes) mid → Keeps mid new → AppendsPrefix old bytes new
AppendsPrefix-failed old mid new bytes m h k =
    (take m bytes, drop m bytes, sym (take-append-drop m bytes), Appends-kept old mid new (take m bytes) h k)

pub OnErr-from : {T E : Type 0} (r : Result T E) (P : Type 0) → P → OnErr r P
OnErr-from (Ok x) P h = tt
OnErr-from (Err e) P h = h

-- a prefix of what comes behind bytes that were written
pub AppendsPrefix-more : (old mid new : Option (List ℕ)) (bytes more : List ℕ) → Appends old bytes mid → AppendsPrefix mid more new → AppendsPrefix old (bytes ++ more) new
AppendsPrefix-more old mid new bytes more h k =
    (bytes ++ k.0, k.1, ap (λ bs. bytes ++ bs) k.2 ∙ sym (append_assoc bytes k.0 k.1), Appends-more old mid new bytes k.0 h k.3)

-- a prefix of bytes is one of more bytes
pub AppendsPrefix-wider : (old new : Option (List ℕ)) (bytes more : List ℕ) → AppendsPrefix old bytes new → AppendsPrefix old (bytes ++ more) new
AppendsPrefix-wider old new bytes more h =
    (h.0, h.1 ++ more, ap (λ bs. bs ++ more) h.2 ∙ append_assoc h.0 h.1 more, h.3)

-- all the bytes are a prefix of them
pub AppendsPrefix-all : (old new : Option (List ℕ)) (bytes : List ℕ) → Appends old bytes new → AppendsPrefix old bytes new
AppendsPrefix-all old new bytes h = (bytes, [], sym (append-nil bytes), h)

-- a last failure adds nothing
pub AppendsPrefix-kept : (old mid new : Option (List ℕ)) (bytes : List ℕ) → AppendsPrefix old bytes mid → Keeps mid new → AppendsPrefix old bytes new
AppendsPrefix-kept old mid new bytes h k = (h.0, h.1, h.2, Appends-kept old mid new h.0 h.3 k)

-- a sink that was only asked keeps what was written
pub Appends-none : (old new : Option (List ℕ)) → Keeps old new → Appends old [] new
Appends-none None new h = tt
Appends-none (Some old) None h = absurd h
Appends-none (Some old) (Some new) h = h ∙ sym (append-nil old)
