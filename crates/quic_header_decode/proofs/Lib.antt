mod Cuts
pub mod CutAnswers
pub mod Datagrams
mod Ended
mod Ends
pub mod FieldLaws
mod Finishes
pub mod Headers
pub mod Made
pub mod RfcPackets
pub mod Rows
mod Scans
pub mod Steps
pub mod Wide
