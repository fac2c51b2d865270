-- A reply that is told is a call.
use Rattle.std.proofs.Common.{◌≡◌, ◌⊎◌, inl, inr, ◌++◌, ℕ, ℤ, pos, List, Option, Some, None, Result, Ok, Err, refl, sym, subst, ap, ◌∙◌}
use Rattle.std.specs.Prelude.{IfOk, IsErrOf, String, map, string_bytes}
use Rattle.std.specs.declared.alloc.Global.{Global}
use Rattle.std.proofs.lemmas.Grind.{flat_map-append}
use Rattle.lrp_io.specs.declared.shelf.File.{File}
use Rattle.lrp_outputs.specs.declared.status.Status.{Status}
use Rattle.lrp_c.specs.Calls.{AreUnpacked, IsReplied, IsReply, IsRunOver, IsUnreplied}
use Rattle.lrp_c.specs.Packed.{framed_file, packed_files, packed_words}
use Rattle.lrp_c.specs.Sessions.{IsHandleAsked, IsReplyTold, closing_number}
use Rattle.lrp_c.specs.declared.packed.Unread.{Unread}
use Rattle.lrp_c.specs.declared.packed.Unread.TheVariants as unread
use Rattle.lrp_c.specs.declared.reply.Reply.{Reply}

-- words and files whose reply is told, or why there is none
pub call_of : {words files whole room new : List ℕ} {count : ℕ} {number : ℤ} (reply : Result Reply Unread) → IfOk reply (λ r. IsReply words whole r.text.items r.status) → (IsErrOf reply unread.Unpacked → AreUnpacked words files)
    → IsReplyTold reply room new count number → IsReplied words whole room new count number ⊎ (IsUnreplied 8 room new count number ⊎ (IsUnreplied 10 room new count number × AreUnpacked words files))
call_of (Ok reply) is un told = inl (record { text = reply.text.items; ended = reply.status; reply = is; written = told.0; counted = told.1; numbered = told.2 })
call_of (Err unread.Memory) is un told = inr (inl told)
call_of (Err unread.Unpacked) is un told = inr (inr (told, un refl))

-- a run over files in front of others is the reply to them, packed one after the other
pub reply_joined : {words files : List ℕ} {said : List (String Global)} (own held : List File) {text : List ℕ} {ended : Status} → words ≡ packed_words (map string_bytes said) → files ≡ packed_files own → IsRunOver said (own ++ held) text ended
    → IsReply words (files ++ packed_files held) text ended
reply_joined {said = said} own held w f run = record { said = said; held = own ++ held; words_packed = w; files_packed = ap (λ xs. xs ++ packed_files held) f ∙ sym (flat_map-append framed_file own held); run = run }

-- where no files are kept, nothing is told
pub asked_closed : (words files room after : List ℕ) (count : ℕ) (number : ℤ) (old new : Option (List File)) → old ≡ None → new ≡ None → IsUnreplied 11 room after count number → IsHandleAsked words files old new room after count number
asked_closed words files room after count number old new e n told = subst (λ (o : Option (List File)). IsHandleAsked words files o new room after count number) (sym e) (n, told)

-- where some are, the call over them is told
pub asked_open : (words files room after : List ℕ) (count : ℕ) (number : ℤ) (old new : Option (List File)) (held : List File) → old ≡ Some held → new ≡ Some held
    → IsReplied words (files ++ packed_files held) room after count number ⊎ (IsUnreplied 8 room after count number ⊎ (IsUnreplied 10 room after count number × AreUnpacked words files)) → IsHandleAsked words files old new room after count number
asked_open words files room after count number old new held e n told = subst (λ (o : Option (List File)). IsHandleAsked words files o new room after count number) (sym e) (n, told)

-- what is told where files are let go of
pub closing_of : {number : ℤ} (old : Option (List File)) (held : List File) → old ≡ Some held → number ≡ pos 0 → number ≡ closing_number old
closing_of old held e n = n ∙ sym (ap closing_number e)
