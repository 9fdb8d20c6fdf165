-- Opening a session, adding a bid, asking for the answer: what the contracts cite.
pub mod Open
pub mod Add
pub mod Answer
