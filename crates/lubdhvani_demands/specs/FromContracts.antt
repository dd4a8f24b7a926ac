-- The promises that this crate speaks of are the contracts of the exported calls, as the check reads them (`Post`; for calls over a record lent, what
-- proofs/Single of `lubdhvani` has that their contracts say): whatever a proved call gives, what this crate states holds of it. Assumes nothing.
use Rattle.std.specs.Prelude.{[], ℕ}
use contract.Lifetimes.{Lfts}
use denote.Triple.Entry.{Args}
use denote.Triple.Clauses.{AtExit}
use borrow.Fn.Kinds.{Dens, ended_of}
use Rattle.frame_body.specs.declared.Edition.TheVariants.{One, Two}
use Rattle.frame_body.specs.Fields.{own_of}
use Rattle.lubdhvani.specs.declared.answers.Counted.{Counted}
use Rattle.lubdhvani.specs.declared.answers.Measured.{Measured}
use Rattle.lubdhvani.specs.declared.frame.Framed.{Framed}
use Rattle.lubdhvani.specs.declared.bundle.Part.{Part}
use Rattle.lubdhvani.specs.declared.read.Reading.{Reading}
use Rattle.lubdhvani.proofs.Single.Running as running
use Rattle.lubdhvani.proofs.Single.Walk as walk
use Rattle.lubdhvani.specs.contracts.running.lubdhvani_start as start
use Rattle.lubdhvani.specs.contracts.running.lubdhvani_feed as feed
use Rattle.lubdhvani.specs.contracts.running.lubdhvani_finish as finish
use Rattle.lubdhvani.specs.contracts.walk.lubdhvani_next as step
use Rattle.lubdhvani.proofs.gage.lubdhvani_permute.Kinds as permute-kinds
use Rattle.lubdhvani.proofs.gage.lubdhvani_permute.Reads as permute-reads
use Rattle.lubdhvani.proofs.gage.lubdhvani_unpermute.Kinds as unpermute-kinds
use Rattle.lubdhvani.proofs.gage.lubdhvani_unpermute.Reads as unpermute-reads
use Rattle.lubdhvani.proofs.digest.lubdhvani_digest.Kinds as digest-kinds
use Rattle.lubdhvani.proofs.digest.lubdhvani_digest.Reads as digest-reads
use Rattle.lubdhvani.proofs.ingage.lubdhvani_seal.Kinds as seal-kinds
use Rattle.lubdhvani.proofs.ingage.lubdhvani_seal.Reads as seal-reads
use Rattle.lubdhvani.proofs.ingage.lubdhvani_open.Kinds as opens-kinds
use Rattle.lubdhvani.proofs.ingage.lubdhvani_open.Reads as opens-reads
use Rattle.lubdhvani.proofs.frame.lubdhvani_write.Kinds as write-kinds
use Rattle.lubdhvani.proofs.frame.lubdhvani_write.Reads as write-reads
use Rattle.lubdhvani.proofs.frame.lubdhvani_write_two.Kinds as write-two-kinds
use Rattle.lubdhvani.proofs.frame.lubdhvani_write_two.Reads as write-two-reads
use Rattle.lubdhvani.proofs.convert.lubdhvani_to_one.Kinds as to-one-kinds
use Rattle.lubdhvani.proofs.convert.lubdhvani_to_one.Reads as to-one-reads
use Rattle.lubdhvani.proofs.convert.lubdhvani_to_two.Kinds as to-two-kinds
use Rattle.lubdhvani.proofs.convert.lubdhvani_to_two.Reads as to-two-reads
use Rattle.lubdhvani.proofs.read.lubdhvani_read.Kinds as read-kinds
use Rattle.lubdhvani.proofs.read.lubdhvani_read.Reads as read-reads
use Rattle.lubdhvani.proofs.bundle.lubdhvani_bundle_write.Kinds as bundle-write-kinds
use Rattle.lubdhvani.proofs.bundle.lubdhvani_bundle_write.Reads as bundle-write-reads
use Rattle.lubdhvani.proofs.bundle.lubdhvani_bundle_read.Kinds as bundle-read-kinds
use Rattle.lubdhvani.proofs.bundle.lubdhvani_bundle_read.Reads as bundle-read-reads
use Rattle.lubdhvani.proofs.bundle.lubdhvani_bundle_name.Kinds as bundle-name-kinds
use Rattle.lubdhvani.proofs.bundle.lubdhvani_bundle_name.Reads as bundle-name-reads
use Rattle.lubdhvani.proofs.bundle.lubdhvani_bundle_rows.Kinds as bundle-rows-kinds
use Rattle.lubdhvani.proofs.bundle.lubdhvani_bundle_rows.Reads as bundle-rows-reads
use Rattle.lubdhvani_demands.specs.Promises.{Permutes, Unpermutes, Digests, Starts, Feeds, Finishes, Seals, Opens}
use Rattle.lubdhvani_demands.specs.Promises.{Writes, Converts, Reads, Nexts, BundleWrites, BundleReads, BundleNames, BundleRows}

-- the arguments: state and rounds
pub permute-promises : (κs : Lfts 1) (a : Dens κs permute-kinds.ps) (r : ℕ) (x : AtExit (ended_of 1 permute-kinds.ps permute-kinds.r) κs)
    → permute-reads.Post κs a r x
    → Permutes a.0.now a.1.0 r x.0.now
permute-promises κs a r x q = q

pub unpermute-promises : (κs : Lfts 1) (a : Dens κs unpermute-kinds.ps) (r : ℕ) (x : AtExit (ended_of 1 unpermute-kinds.ps unpermute-kinds.r) κs)
    → unpermute-reads.Post κs a r x
    → Unpermutes a.0.now a.1.0 r x.0.now
unpermute-promises κs a r x q = q

-- the arguments: instance, message and buffer
pub digest-promises : (κs : Lfts 2) (a : Dens κs digest-kinds.ps) (r : Counted) (x : AtExit (ended_of 2 digest-kinds.ps digest-kinds.r) κs)
    → digest-reads.Post κs a r x
    → Digests a.0 a.1.0.now a.1.1.0.now r x.1.1.0.now
digest-promises κs a r x q = q

-- the arguments: instance, key, nonce, associated data, message, buffer and seal buffer
pub seal-promises : (κs : Lfts 6) (a : Dens κs seal-kinds.ps) (r : Counted) (x : AtExit (ended_of 6 seal-kinds.ps seal-kinds.r) κs) → seal-reads.Post κs a r x
    → Seals a.0 a.1.0.now a.1.1.0.now a.1.1.1.0.now a.1.1.1.1.0.now a.1.1.1.1.1.0.now a.1.1.1.1.1.1.0.now r
    x.1.1.1.1.1.0.now x.1.1.1.1.1.1.0.now
seal-promises κs a r x q = q

-- the arguments: instance, key, nonce, associated data, ciphertext, seal and buffer
pub open-promises : (κs : Lfts 6) (a : Dens κs opens-kinds.ps) (r : Counted) (x : AtExit (ended_of 6 opens-kinds.ps opens-kinds.r) κs)
    → opens-reads.Post κs a r x
    → Opens a.0 a.1.0.now a.1.1.0.now a.1.1.1.0.now a.1.1.1.1.0.now a.1.1.1.1.1.0.now a.1.1.1.1.1.1.0.now r
    x.1.1.1.1.1.1.0.now
open-promises κs a r x q = q

-- the arguments: key, nonce, font digest, layout, line and frame buffer
pub write-promises : (κs : Lfts 5) (a : Dens κs write-kinds.ps) (r : Framed) (x : AtExit (ended_of 5 write-kinds.ps write-kinds.r) κs)
    → write-reads.Post κs a r x
    → Writes a.0.now (own_of One a.1.0.now []) a.1.1.0.now a.1.1.1.0 a.1.1.1.1.0.now a.1.1.1.1.1.0.now r
    x.1.1.1.1.1.0.now
write-promises κs a r x q = q

-- the arguments: with a job behind the layout
pub write-two-promises : (κs : Lfts 6) (a : Dens κs write-two-kinds.ps) (r : Framed) (x : AtExit (ended_of 6 write-two-kinds.ps write-two-kinds.r) κs)
    → write-two-reads.Post κs a r x
    → Writes a.0.now (own_of Two a.1.0.now a.1.1.1.1.0.now) a.1.1.0.now a.1.1.1.0 a.1.1.1.1.1.0.now
    a.1.1.1.1.1.1.0.now r x.1.1.1.1.1.1.0.now
write-two-promises κs a r x q = q

-- the arguments: stretch, key, font digest, layout, nonce and frame buffer
pub to-one-promises : (κs : Lfts 5) (a : Dens κs to-one-kinds.ps) (r : Measured) (x : AtExit (ended_of 5 to-one-kinds.ps to-one-kinds.r) κs)
    → to-one-reads.Post κs a r x
    → Converts a.1.0.now (own_of One a.1.1.1.1.0.now []) a.1.1.0.now a.1.1.1.0 a.0.now a.1.1.1.1.1.0.now r
    x.1.1.1.1.1.0.now
to-one-promises κs a r x q = q

-- the arguments: with a job behind the nonce
pub to-two-promises : (κs : Lfts 6) (a : Dens κs to-two-kinds.ps) (r : Measured) (x : AtExit (ended_of 6 to-two-kinds.ps to-two-kinds.r) κs)
    → to-two-reads.Post κs a r x
    → Converts a.1.0.now (own_of Two a.1.1.1.1.0.now a.1.1.1.1.1.0.now) a.1.1.0.now a.1.1.1.0 a.0.now
    a.1.1.1.1.1.1.0.now r x.1.1.1.1.1.1.0.now
to-two-promises κs a r x q = q

-- the arguments: stream, place, key, font digest, what is asked, and line buffer
pub read-promises : (κs : Lfts 4) (a : Dens κs read-kinds.ps) (r : Reading) (x : AtExit (ended_of 4 read-kinds.ps read-kinds.r) κs) → read-reads.Post κs a r x
    → Reads a.1.1.0.now a.1.1.1.0.now a.1.1.1.1.0 a.0.now a.1.0 a.1.1.1.1.1.0.now r x.1.1.1.1.1.0.now
read-promises κs a r x q = q

-- the arguments: name, rows and bundle buffer
pub bundle-write-promises : (κs : Lfts 3) (a : Dens κs bundle-write-kinds.ps) (r : Measured)
    (x : AtExit (ended_of 3 bundle-write-kinds.ps bundle-write-kinds.r) κs) → bundle-write-reads.Post κs a r x
    → BundleWrites a.0.now a.1.0.now a.1.1.0.now r x.1.1.0.now
bundle-write-promises κs a r x q = q

-- the arguments: the bundle
pub bundle-read-promises : (κs : Lfts 1) (a : Dens κs bundle-read-kinds.ps) (r : Measured) (x : AtExit (ended_of 1 bundle-read-kinds.ps bundle-read-kinds.r) κs)
    → bundle-read-reads.Post κs a r x
    → BundleReads a.0.now r
bundle-read-promises κs a r x q = q

pub bundle-name-promises : (κs : Lfts 1) (a : Dens κs bundle-name-kinds.ps) (r : Part) (x : AtExit (ended_of 1 bundle-name-kinds.ps bundle-name-kinds.r) κs)
    → bundle-name-reads.Post κs a r x
    → BundleNames a.0.now r
bundle-name-promises κs a r x q = q

-- the arguments: the bundle and a character
pub bundle-rows-promises : (κs : Lfts 1) (a : Dens κs bundle-rows-kinds.ps) (r : Part) (x : AtExit (ended_of 1 bundle-rows-kinds.ps bundle-rows-kinds.r) κs)
    → bundle-rows-reads.Post κs a r x
    → BundleRows a.0.now a.1.0 r
bundle-rows-promises κs a r x q = q

-- the record and an instance; the record and bytes; the record and a buffer
pub start-promises : (κs : Lfts 1) (a : Args start.signature κs) (r : ℕ) (x : AtExit start.ended κs) → running.Start κs a r x
    → Starts a.0.now a.1.0 r x.0.now
start-promises κs a r x q = q

pub feed-promises : (κs : Lfts 2) (a : Args feed.signature κs) (r : ℕ) (x : AtExit feed.ended κs) → running.Feed κs a r x
    → Feeds a.0.now a.1.0.now r x.0.now
feed-promises κs a r x q = q

pub finish-promises : (κs : Lfts 2) (a : Args finish.signature κs) (r : Counted) (x : AtExit finish.ended κs) → running.Finish κs a r x
    → Finishes a.0.now a.1.0.now r x.0.now x.1.0.now
finish-promises κs a r x q = q

-- the walker, key, font digest, what is asked, and line buffer
pub next-promises : (κs : Lfts 5) (a : Args step.signature κs) (r : Reading) (x : AtExit step.ended κs) → walk.Next κs a r x
    → Nexts a.1.0.now a.1.1.0.now a.1.1.1.0 a.0.now a.1.1.1.1.0.now r x.0.now x.1.1.1.1.0.now
next-promises κs a r x q = q
