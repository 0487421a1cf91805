pub mod DispatchLemmas
pub mod ReceiverLemmas
pub mod WorkerLemmas
