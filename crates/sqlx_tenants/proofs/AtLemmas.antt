-- A tenant who is there, and one who isn't.
use Rattle.std.proofs.Common.{Result, Ok, Err, IfOk, ◌≡◌, ℕ, ◌<◌, Bool, true, false, cond, length, nat_lt, sym, ap, ◌∙◌, subst}
use Rattle.std.proofs.lemmas.Bool.{and_parts, ltb-true}
use Rattle.sqlx_lines.specs.Numbers.{nanos}
use Rattle.sqlx_tenants_rules.specs.declared.event.Opening.{Opening}
use Rattle.sqlx_tenants_rules.specs.declared.reply.Reply.{Reply}
use Rattle.sqlx_tenants_rules.specs.declared.reply.Reply.TheVariants as reply
use Rattle.sqlx_tenants_rules.specs.Book.{Book, is_given}
use Rattle.sqlx_tenants_rules.specs.Rules.{of_tenant}
use Rattle.sqlx_tenants.specs.Keeps.{Keeps}
use Rattle.sqlx_tenants.specs.Answers.{Replies, RepliesAt}
use Rattle.sqlx_tenants.proofs.Alike.{Family}
use Rattle.sqlx_tenants.proofs.AskLemmas.{moment-later}

pub given-below : (n : ℕ) (book : Book) → is_given n book ≡ true → n < length book
given-below n book e = ltb-true n (length book) (and_parts (nat_lt 0 n) (nat_lt n (length book)) e).1

pub there : (n : ℕ) (book : Book) (r : Reply) → is_given n book ≡ true → of_tenant n book r ≡ r
there n book r e = ap (λ (b : Bool). cond b r reply.NoTenant) e

pub not-there : (n : ℕ) (book : Book) (r : Reply) → is_given n book ≡ false → of_tenant n book r ≡ reply.NoTenant
not-there n book r e = ap (λ (b : Bool). cond b r reply.NoTenant) e

module _ (now n : ℕ) (due : Book → Reply) (after : Opening → Reply → Book → Book) (old new : Family) (word : Reply) (given : Bool) (is : (first : Opening) (book : Book) (m : ℕ) → Keeps first old book m → given ≡ is_given n book) where
  pub replies-there : given ≡ true → Replies now n due after old new word → RepliesAt now n due after old new word
  replies-there e does first book m k le few =
      let here = sym (is first book m k) ∙ e in
      let all = does first book m k le (given-below n book here) few in
      let same = there n book (due book) here in
      (all.0 ∙ sym same, subst (λ (r : Reply). Keeps first new (after first r book) (nanos now)) (sym same) all.1)

  pub replies-none : given ≡ false → word ≡ reply.NoTenant → new ≡ old → ((first : Opening) (book : Book) → after first reply.NoTenant book ≡ book) → RepliesAt now n due after old new word
  replies-none e says stays nothing first book m k le few =
      let same = not-there n book (due book) (sym (is first book m k) ∙ e) in (
        says ∙ sym same,
        subst (λ (r : Reply). Keeps first new (after first r book) (nanos now)) (sym same)
            (subst (λ (b : Book). Keeps first new b (nanos now)) (sym (nothing first book))
            (subst (λ (h : Family). Keeps first h book (nanos now)) (sym stays) (moment-later first old book m (nanos now) k le))),
      )

-- the same of a call that may want memory
pub replies-there-ok : {E : Type 0} (now n : ℕ) (due : Book → Reply) (after : Opening → Reply → Book → Book) (old new : Family) (given : Bool) → ((first : Opening) (book : Book) (m : ℕ) → Keeps first old book m → given ≡ is_given n book)
    → (r : Result Reply E) → given ≡ true → IfOk r (Replies now n due after old new) → IfOk r (RepliesAt now n due after old new)
replies-there-ok now n due after old new given is (Ok word) e does = replies-there now n due after old new word given is e does
replies-there-ok now n due after old new given is (Err error) e does = tt
