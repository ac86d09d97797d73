-- Consecutive pieces of bytes.
use Rattle.std.proofs.Common.{◌∙◌, ℕ, List, ◌++◌, append_assoc, Option, None, Some, ap, sym}
use Rattle.std.specs.Io.KnownBytes.{Appends, Consumes}

pub both_added : (old mid new : Option (List ℕ)) (xs ys : List ℕ) → Appends old mid xs → Appends mid new ys
    → Appends old new (xs ++ ys)
both_added None mid new xs ys a b = tt
both_added (Some o) (Some m) (Some n) xs ys a b = b ∙ (ap (λ l. l ++ ys) a ∙ append_assoc o xs ys)
both_added (Some o) (Some m) None xs ys a b = absurd b
both_added (Some o) None new xs ys a b = absurd a

pub both_taken : (old mid new : Option (List ℕ)) (xs ys : List ℕ) → Consumes old mid xs → Consumes mid new ys
    → Consumes old new (xs ++ ys)
both_taken None mid new xs ys a b = tt
both_taken (Some o) (Some m) (Some n) xs ys a b = a ∙ (ap (λ l. xs ++ l) b ∙ sym (append_assoc xs ys n))
both_taken (Some o) (Some m) None xs ys a b = absurd b
both_taken (Some o) None new xs ys a b = absurd a

pub three_taken : (a b c d : Option (List ℕ)) (xs ys zs : List ℕ) → Consumes a b xs → Consumes b c ys → Consumes c d zs
    → Consumes a d (xs ++ (ys ++ zs))
three_taken a b c d xs ys zs x y z = both_taken a b d xs (ys ++ zs) x (both_taken b c d ys zs y z)

pub three_added : (a b c d : Option (List ℕ)) (xs ys zs : List ℕ) → Appends a b xs → Appends b c ys → Appends c d zs
    → Appends a d (xs ++ (ys ++ zs))
three_added a b c d xs ys zs x y z = both_added a b d xs (ys ++ zs) x (both_added b c d ys zs y z)
