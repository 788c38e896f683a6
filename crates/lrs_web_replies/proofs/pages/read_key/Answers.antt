use Rattle.std.proofs.Common.{ℕ, List, Bor, Option, get_or, sym, ap, subst}
use Rattle.std.specs.Prelude.{option_map}
use Rattle.lrs_web_replies.specs.Pages.{SaysKey, SaysValue, first_field}
use Rattle.lrs_web_replies.specs.Questions.{Text}
use Rattle.lrs_web_replies.specs.declared.pages.KeyField.{KeyField}
use Rattle.lrs_web_replies.specs.declared.pages.KeyMember.{KeyMember}
use Rattle.lrs_web_replies.specs.declared.pages.KeyMember.TheVariants as member
use Rattle.lrs_web_replies.specs.declared.pages.KeyValue.{KeyValue}
use Rattle.lrs_web_replies.proofs.PageKeys.{next_at, reads_all, reads_few, reads_next, reads_none}
use Rattle.lrs_web_replies.proofs.pages.read_key.Goals as goal

abbrev told : Option (Bor (List ℕ)) → Option Text
told rest = option_map (λ (t : Bor (List ℕ)). t.now) rest

-- the member that is read next
abbrev member_at : List KeyMember → ℕ → KeyMember
member_at key i = get_or key i member.Route

pub returns-in-None-read_value-clause-unread : goal.returns-in-None-read_value-clause-unread
returns-in-None-read_value-clause-unread c =
    reads_none c.args.key.now c.args.text.now c.loop-member.fields.items c.loop-member.member-index (member_at c.args.key.now c.loop-member.member-index) (told c.loop-member.rest) (next_at c.loop-member.member-index c.args.key.now member.Route c.loop-member-test.true) c.loop-member.invariant c.in-Some.left.now
    (ap told c.in-Some.is) (subst (λ (t : Text). (v : KeyValue) → SaysValue (member_at c.args.key.now c.loop-member.member-index) t v → ⊥) c.first_field.ensures.first c.in-None-read_value.ensures.unread)

pub returns-in-None-clause-unread : goal.returns-in-None-clause-unread
returns-in-None-clause-unread c =
    reads_few c.args.key.now c.args.text.now c.loop-member.fields.items c.loop-member.member-index (member_at c.args.key.now c.loop-member.member-index) (told c.loop-member.rest) (next_at c.loop-member.member-index c.args.key.now member.Route c.loop-member-test.true) c.loop-member.invariant (ap told c.in-None.is)

pub loop-member-preserved : goal.loop-member-preserved
loop-member-preserved c =
    let says = subst (λ (t : Text). SaysValue (member_at c.args.key.now c.loop-member.member-index) t c.in-Some-read_value.value) c.first_field.ensures.first c.in-Some-read_value.ensures.read in
    let field = subst (λ (v : KeyValue). SaysValue (member_at c.args.key.now c.loop-member.member-index) (first_field c.in-Some.left.now) v) (sym c.field_of.ensures.value) says in
    let next = reads_next c.args.key.now c.args.text.now c.loop-member.fields.items c.loop-member.member-index (member_at c.args.key.now c.loop-member.member-index) (told c.loop-member.rest) (next_at c.loop-member.member-index c.args.key.now member.Route c.loop-member-test.true) c.loop-member.invariant c.in-Some.left.now
    c.field_of.result (ap told c.in-Some.is) (c.field_of.ensures.member, field) in
    rw (c.first_field.ensures.behind, c.in_ok-push-in-Some-read_value.ensures.items) next

pub returns-in-None-rest-clause-read : goal.returns-in-None-rest-clause-read
returns-in-None-rest-clause-read c =
    subst (λ (fs : List KeyField). SaysKey c.args.key.now c.args.text.now fs) (sym c.from_vec.ensures)
    (reads_all c.args.key.now c.args.text.now c.loop-member.fields.items c.loop-member.member-index (told c.loop-member.rest) c.loop-member-test.false c.loop-member.invariant (ap told c.in-None-rest.is))
