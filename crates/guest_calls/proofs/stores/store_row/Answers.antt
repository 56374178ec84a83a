use Rattle.guest_calls.proofs.stores.store_row.Goals as goal

pub returns-in-Init : goal.returns-in-Init
returns-in-Init c = rw c.in-Init.is c.abi_init.ensures

pub returns-in-DictionaryOpen : goal.returns-in-DictionaryOpen
returns-in-DictionaryOpen c = rw c.in-DictionaryOpen.is c.dictionary_open.ensures

pub returns-in-DictionaryGet : goal.returns-in-DictionaryGet
returns-in-DictionaryGet c = rw c.in-DictionaryGet.is c.dictionary_get.ensures.row

pub returns-in-ConfigStoreOpen : goal.returns-in-ConfigStoreOpen
returns-in-ConfigStoreOpen c = rw c.in-ConfigStoreOpen.is c.config_store_open.ensures

pub returns-in-ConfigStoreGet : goal.returns-in-ConfigStoreGet
returns-in-ConfigStoreGet c = rw c.in-ConfigStoreGet.is c.config_store_get.ensures.row

pub returns-in-SecretStoreOpen : goal.returns-in-SecretStoreOpen
returns-in-SecretStoreOpen c = rw c.in-SecretStoreOpen.is c.secret_store_open.ensures

pub returns-in-SecretStoreGet : goal.returns-in-SecretStoreGet
returns-in-SecretStoreGet c = rw c.in-SecretStoreGet.is c.secret_store_get.ensures.row

pub returns-in-SecretStorePlaintext : goal.returns-in-SecretStorePlaintext
returns-in-SecretStorePlaintext c = rw c.in-SecretStorePlaintext.is c.secret_store_plaintext.ensures.row

pub returns-in-LogEndpointGet : goal.returns-in-LogEndpointGet
returns-in-LogEndpointGet c = rw c.in-LogEndpointGet.is c.log_endpoint_get.ensures
