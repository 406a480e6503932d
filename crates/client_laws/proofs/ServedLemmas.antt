-- The server of this repository is one that the client's theorem speaks of.
use Rattle.std.proofs.Common.{◌≡◌, ◌≤◌, ℕ, IsTrue, List, Ok, subst, inl, inr, arith}
use Rattle.std.specs.Prelude.{Result}
use Rattle.network.specs.Events.{PeerSeen}
use Rattle.option_words.specs.declared.word_fault.Fault.{Fault}
use Rattle.rquota_serve.specs.ExportedValues.{ExportedValues}
use Rattle.rquota_serve.specs.Reply.{reply_of}
use Rattle.rquota_serve.proofs.XidLemmas.{known_by_call}
use Rattle.quota_client.specs.Paths.{PathAsked}
use Rattle.quota_client.specs.Run.{AsksPaths, ClientSeen, ClientTells, Runs}
use Rattle.quota_client.specs.Served.{KeepsXid}
use Rattle.quota_client.specs.Words.{Asked}
use Rattle.client_laws.specs.Served.{HasRepliesOf, PrintsRepliesOf}

-- it keeps the xid of a call
keeps_xid : (exported : ExportedValues) → KeepsXid (reply_of exported)
keeps_xid exported = record {
  xid = λ call moment reply same. (known_by_call exported call moment reply same).0;
  fits = λ call moment reply few same. (known_by_call exported call moment reply same).1 few;
}

pub has_replies : (exported : ExportedValues) (asked : Asked) (first : ℕ) (done : List PathAsked) (old new : PeerSeen)
    → AsksPaths asked first done old new → HasRepliesOf exported asked first done
has_replies exported asked first done old new asks = asks.own (reply_of exported) (keeps_xid exported)

-- a run that ended with status 0 or 1 asked for each path
pub prints_replies : (exported : ExportedValues) (words : Result Asked Fault) (asked : Asked) (first : ℕ)
    (tells : ClientTells) (old new : ClientSeen) (status : ℕ) → words ≡ Ok asked → IsTrue tells.asking.peer
    → IsTrue tells.asking.out → status ≤ 1 → Runs words first tells old new status
    → PrintsRepliesOf exported asked first old.asking new.asking status
prints_replies exported words asked first tells old new status is told_peer told_out few runs =
    elim (subst (λ (w : Result Asked Fault). Runs w first tells old new status) is runs) [
      | inl done ↦
          let has = done.answers told_peer in record {
            done = has.done;
            all = has.all;
            asks = has.asks;
            printed = has.out told_out;
            replies = has_replies exported asked first has.done old.asking.peer new.asking.peer has.asks;
            ended = has.ended;
          }
      | inr fails ↦ elim fails [
        | inl peer ↦ absurd (omega (arith, few, peer.ended))
        | inr out ↦ absurd (omega (arith, few, out.ended))
      ]
    ]
