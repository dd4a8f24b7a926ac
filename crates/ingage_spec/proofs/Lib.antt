pub mod Flows
pub mod Known
pub mod Results
pub mod RoundTrip
